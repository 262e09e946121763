-- Each step keeps the rule of a stream.
use Rattle.std.proofs.Common.{◌≡◌, ◌≢◌, ◌∙◌, ℕ, zero, suc, true, false, true≢false, List, [], ◌∷◌, ◌++◌, length, set, map, refl, sym, ap, subst, ⊎_elim, append_assoc}
use Rattle.std.specs.Prelude.{Some}
use mathlib.Core.Option.{some, some-ne-none}
use mathlib.Core.List.{IsPrefix, map-append}
use lib.ListN.{get_elem?}
use Rattle.crossbeam_queue.specs.Fifo.{Pushes, Pops, Forks, Learns}
use Rattle.crossbeam_queue.proofs.Lists.{at_set, at_snoc}
use Rattle.sn_stream.specs.declared.item.StreamItem.{StreamItem}
use Rattle.sn_stream.specs.declared.rule.Known.{Known}
use Rattle.sn_stream.specs.Flow.{Fits, Flows, Got, IsLastOf, Moment, Past, Put, Stated, getter, known, maker, putter}

-- where a view was not among those before, it is the new one, which is last
at_end : (views : List Known) (w u : Known) (j : ℕ) → get_elem? views j ≢ some u → get_elem? (views ++ w ∷ []) j ≡ some u → j ≡ length views
at_end [] w u zero other e = refl
at_end [] w u (suc j) other e = absurd (some-ne-none u (sym e))
at_end (x ∷ xs) w u zero other e = absurd (other e)
at_end (x ∷ xs) w u (suc j) other e = ap suc (at_end xs w u j other e)

-- the fact holds of each, at its place
abbrev Each : (ℕ → Known → Type 0) → List Known → Type 0
Each F views = (pass : ℕ) (v : Known) → get_elem? views pass ≡ some v → F pass v

each_set : (F : ℕ → Known → Type 0) (views : List Known) (pass : ℕ) (w : Known) → F pass w → ((j : ℕ) (u : Known) → j ≢ pass → get_elem? views j ≡ some u → F j u)
    → Each F (set views pass w)
each_set F views pass w mine others j u e = ⊎_elim (λ (x : (j ≡ pass) × (w ≡ u)). subst (λ (y : ℕ × Known). F y.0 y.1) (λ i. (sym x.0 i, x.1 i)) mine)
    (λ (x : (j ≢ pass) × (get_elem? views j ≡ some u)). others j u x.0 x.1) (at_set views pass j w u e)

abbrev nothing : Past
nothing = record { putter = 0; getter = 0; stated = []; put = []; got = [] }

pub begins : Flows [] (maker ∷ [])
begins = record {
  past = nothing;
  order = refl;
  begins = ([], refl);
  fits = each_set (Fits nothing) (maker ∷ []) 0 maker ((λ _. (refl, refl, refl)), λ _. (refl, refl, refl))
      (λ j u other e. absurd (other (at_end [] _ u j (λ x. some-ne-none u (sym x)) e)));
}

pub puts : (n pass : ℕ) (v : Known) (x : StreamItem) → v.puts ≡ true → IsPrefix (map Some (v.moved ++ x ∷ [])) v.stated → Pushes Flows n pass v x (Put v x)
puts n pass v x may next held views _ h at =
    let w : Known = known true false v.stated (v.moved ++ x ∷ []) in
    let mine = (h.fits pass v at).0 may in
    let new : Past = record h.past { put = h.past.put ++ x ∷ [] } in (
      w,
      record {
        past = new;
        order = ap (λ l. l ++ x ∷ []) h.order ∙ append_assoc h.past.got held (x ∷ []);
        begins = subst (λ (y : List StreamItem × Stated). IsPrefix (map Some (y.0 ++ x ∷ [])) y.1) (λ i. (mine.1 i, mine.2 i)) next;
        fits = each_set (Fits new) views pass w
            ((λ _. (mine.0, ap (λ l. l ++ x ∷ []) mine.1, mine.2)), λ p. absurd (true≢false (sym p)))
            (λ j u other e. ((λ p. absurd (other (((h.fits j u e).0 p).0 ∙ sym mine.0))), (h.fits j u e).1));
      },
      refl,
    )

pub last_of : (pass : ℕ) (v : Known) → v.puts ≡ true → Learns Flows pass v (IsLastOf v.moved)
last_of pass v may held views h at = (h.past.got, ((h.fits pass v at).0 may).1 ∙ h.order)

-- what was got, with one more of what was put, is a beginning of the stated list
next_of : (put got : List StreamItem) (stated : Stated) (x : StreamItem) (held : List StreamItem) → put ≡ got ++ (x ∷ held) → IsPrefix (map Some put) stated
    → IsPrefix (map Some (got ++ x ∷ [])) stated
next_of put got stated x held is begins =
    let all : put ≡ (got ++ x ∷ []) ++ held = is ∙ sym (append_assoc got (x ∷ []) held) in
    let split : map Some put ≡ map Some (got ++ x ∷ []) ++ map Some held = ap (map Some) all ∙ map-append Some (got ++ x ∷ []) held in
    (map Some held ++ begins.0, sym (append_assoc (map Some (got ++ x ∷ [])) (map Some held) begins.0) ∙ ap (λ l. l ++ begins.0) (sym split) ∙ begins.1)

pub gets : (pass : ℕ) (v : Known) → v.gets ≡ true → Pops Flows pass v (Got v)
gets pass v may x held views h at =
    let w : Known = known false true v.stated (v.moved ++ x ∷ []) in
    let mine = (h.fits pass v at).1 may in
    let new : Past = record h.past { got = h.past.got ++ x ∷ [] } in (
      w,
      record {
        past = new;
        order = h.order ∙ sym (append_assoc h.past.got (x ∷ []) held);
        begins = h.begins;
        fits = each_set (Fits new) views pass w
            ((λ p. absurd (true≢false (sym p))), λ _. (mine.0, ap (λ l. l ++ x ∷ []) mine.1, mine.2))
            (λ j u other e. ((h.fits j u e).0, λ p. absurd (other (((h.fits j u e).1 p).0 ∙ sym mine.0))));
      },
      (refl, subst (λ (y : List StreamItem × Stated). IsPrefix (map Some (y.0 ++ x ∷ [])) y.1) (λ i. (sym mine.1 i, sym mine.2 i)) (next_of h.past.put h.past.got h.past.stated x held h.order h.begins)),
    )

pub moment : (pass : ℕ) (v : Known) → Learns Flows pass v (Moment v)
moment pass v held views h at = record { views = views; pass = pass; rule = h; knows = at }

pub splits : (pass : ℕ) (v : Known) (stated : Stated) → v ≡ maker → Forks Flows pass v (putter stated) (getter stated)
splits pass v stated is held views h at =
    let l : Known = putter stated in
    let r : Known = getter stated in
    let puts : v.puts ≡ true = ap (λ (y : Known). y.puts) is in
    let gets : v.gets ≡ true = ap (λ (y : Known). y.gets) is in
    let none : v.moved ≡ [] = ap (λ (y : Known). y.moved) is in
    let mine = h.fits pass v at in
    let vs : List Known = set views pass l in
    let new : Past = record { putter = pass; getter = length vs; stated = stated; put = []; got = [] } in
    let Old : ℕ → Known → Type 0 = λ j u. (u.puts ≡ true → (j ≡ pass) × (u.moved ≡ []) × (u.stated ≡ stated)) × (u.gets ≢ true) in
    let old : Each Old vs = each_set Old views pass l ((λ _. (refl, refl, refl)), λ p. true≢false (sym p))
    (λ j u other e. ((λ p. absurd (other (((h.fits j u e).0 p).0 ∙ sym (mine.0 puts).0))), λ p. other (((h.fits j u e).1 p).0 ∙ sym (mine.1 gets).0))) in
    let put : h.past.put ≡ [] = sym (mine.0 puts).1 ∙ none in
    let got : h.past.got ≡ [] = sym (mine.1 gets).1 ∙ none in record {
      past = new;
      order = sym put ∙ (h.order ∙ ap (λ l. l ++ held) got);
      begins = (stated, refl);
      fits = λ j u e. ⊎_elim (λ x. ((old j u x).0, λ p. absurd ((old j u x).1 p)))
          (λ (same : r ≡ u). (
            (λ p. absurd (true≢false (sym (ap (λ (y : Known). y.puts) same ∙ p)))),
            λ p. (at_end vs r u j (λ x. (old j u x).1 p) e, ap (λ (y : Known). y.moved) (sym same), ap (λ (y : Known). y.stated) (sym same)),
          ))
          (at_snoc vs r u j e);
    }
