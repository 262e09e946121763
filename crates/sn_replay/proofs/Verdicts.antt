-- A text has one verdict at most.
use Rattle.std.proofs.Common.{◌≡◌, ◌≢◌, ℕ, zero, suc, ◌+◌, ◌≤◌, List, [], ◌∷◌, ◌++◌, Bool, true, false, length, refl, sym, ap, ◌∙◌, subst, arith, ◌⊎◌, inl, inr, append_assoc}
use Rattle.sn_net.specs.Item.{ModelItem}
use Rattle.sn_model.specs.declared.run.Run.{Run}
use Rattle.sn_view.specs.View.{View, Happening}
use Rattle.sn_view.specs.Next.{IsEnabled, Next, start_view}
use Rattle.sn_view.specs.Placed.{AtRest}
use Rattle.sn_trace_lines.specs.Lines.{AreLines, BeginsWith, text_of, texts_of}
use Rattle.sn_trace_lines.specs.declared.line.Line.{Line}
use Rattle.sn_trace_lines.proofs.Apart.{one_line}
use Rattle.sn_event_lines.specs.Naming.{Happens, Leads, Names, has_fault}
use Rattle.sn_replay.specs.Replays.{Accepts, Verdict, Replayed, BadLine, NotEnabled, Unfinished, IsVerdict}
use Rattle.sn_replay.specs.Ending.{Ceases, Breaks, Idles, Stops, Ends}
use Rattle.sn_event_lines.proofs.Leading.{leads_on, same_next}
use Rattle.sn_replay.proofs.Fronts.{front_on, shorter, some_text}

no : {X : Type 0} → true ≡ false → X
no u = cc

some-line : (l : Line) (rest text : List ℕ) → BeginsWith l rest text → text ≢ []
some-line l rest text b e = some_text l rest (sym b.text_is ∙ e)

-- one end at one graph
module _ (g : View) (rest : List ℕ) (n : ℕ) where
  ceases-stops : {X : Type 0} (ys : List ModelItem) → Ceases g rest ys → Stops g rest → X
  ceases-stops ys a b = elim a.ends [ inl r ↦ absurd (b.busy r) | inr f ↦ no (sym f ∙ b.sound) ]

  breaks-idles : {X : Type 0} (i j : ℕ) → Breaks g rest n i → Idles g rest n j → X
  breaks-idles i j a b = elim a.bad [ inl f ↦ no (sym f ∙ b.sound) | inr none ↦ absurd (none b.line b.after b.is) ]

  over-idles : {X : Type 0} (j : ℕ) → rest ≡ [] → Idles g rest n j → X
  over-idles j e b = absurd (some-line b.line b.after rest b.is e)

  one-end : (v w : Verdict) → Ends g rest n v → Ends g rest n w → v ≡ w
  one-end (Replayed ys) (Replayed zs) a b = ap (λ xs. Replayed xs) (a.out ∙ sym b.out)
  one-end (Replayed ys) (BadLine j) a b = absurd (b.more a.over)
  one-end (Replayed ys) (NotEnabled j) a b = over-idles j a.over b
  one-end (Replayed ys) Unfinished a b = ceases-stops ys a b
  one-end (BadLine i) (Replayed zs) a b = absurd (a.more b.over)
  one-end (BadLine i) (BadLine j) a b = ap (λ k. BadLine k) (a.number ∙ sym b.number)
  one-end (BadLine i) (NotEnabled j) a b = breaks-idles i j a b
  one-end (BadLine i) Unfinished a b = absurd (a.more b.over)
  one-end (NotEnabled i) (Replayed zs) a b = over-idles i b.over a
  one-end (NotEnabled i) (BadLine j) a b = breaks-idles j i b a
  one-end (NotEnabled i) (NotEnabled j) a b = ap (λ k. NotEnabled k) (a.number ∙ sym b.number)
  one-end (NotEnabled i) Unfinished a b = over-idles i b.over a
  one-end Unfinished (Replayed zs) a b = ceases-stops zs b a
  one-end Unfinished (BadLine j) a b = absurd (b.more a.over)
  one-end Unfinished (NotEnabled j) a b = over-idles j a.over b
  one-end Unfinished Unfinished a b = refl

  -- none where a line goes on
  goes-on : {X : Type 0} (l : Line) (after : List ℕ) (next : View) (v : Verdict) → BeginsWith l after rest → Happens g l next → Ends g rest n v → X
  goes-on l after next (Replayed ys) b h a = absurd (some-line l after rest b a.over)
  goes-on l after next (BadLine i) b h a = elim a.bad [ inl f ↦ no (sym f ∙ h.sound) | inr none ↦ absurd (none l after b) ]
  goes-on l after next (NotEnabled i) b h a =
      let same : a.line ≡ l = (one_line a.line l a.after after rest a.is b).0 in
      absurd (a.idle h.event (subst (λ (k : Line). Names k h.event) (sym same) h.named) h.may)
  goes-on l after next Unfinished b h a = absurd (some-line l after rest b a.over)

-- the first of several lines
first : (l : Line) (ls : List Line) (rest : List ℕ) → AreLines (l ∷ ls) → BeginsWith l (texts_of ls ++ rest) (texts_of (l ∷ ls) ++ rest)
first l ls rest are = record { is_line = are.0; text_is = append_assoc (text_of l) (texts_of ls) rest }

meet : (ls ks : List Line) (r s : List ℕ) (g h i : View) (n : ℕ) (v w : Verdict) → AreLines ls → AreLines ks → texts_of ls ++ r ≡ texts_of ks ++ s → Leads g ls h → Leads g ks i
    → Ends h r (n + length ls) v → Ends i s (n + length ks) w → v ≡ w
meet [] [] r s g h i n v w are also same a b ends other =
    one-end g r (n + 0) v w (subst (λ x. Ends x r (n + 0) v) a ends) (subst (λ x. Ends x r (n + 0) w) b (subst (λ xs. Ends i xs (n + 0) w) (sym same) other))
meet [] (k ∷ ks) r s g h i n v w are also same a (next, happens, b) ends other =
    goes-on g r (n + 0) k (texts_of ks ++ s) next v (subst (BeginsWith k (texts_of ks ++ s)) (sym same) (first k ks s also)) happens (subst (λ x. Ends x r (n + 0) v) a ends)
meet (l ∷ ls) [] r s g h i n v w are also same (next, happens, a) b ends other =
    goes-on g s (n + 0) l (texts_of ls ++ r) next w (subst (BeginsWith l (texts_of ls ++ r)) same (first l ls r are)) happens (subst (λ x. Ends x s (n + 0) w) b other)
meet (l ∷ ls) (k ∷ ks) r s g h i n v w are also same (next, happens, a) (then, goes, b) ends other =
    let one = one_line l k (texts_of ls ++ r) (texts_of ks ++ s) (texts_of (l ∷ ls) ++ r) (first l ls r are) (subst (BeginsWith k (texts_of ks ++ s)) (sym same) (first k ks s also)) in
    let there : next ≡ then = same_next l g next then happens (subst (λ (x : Line). Happens g x then) (sym one.0) goes) in
    meet ls ks r s next h i (n + 1) v w are.1 also.1 one.1 a (subst (λ x. Leads x ks i) (sym there) b)
    (subst (λ m. Ends h r m v) (further n (length ls)) ends) (subst (λ m. Ends i s m w) (further n (length ks)) other)
  where
    further : (n m : ℕ) → n + suc m ≡ (n + 1) + m
    further n m = omega arith

module _ (run : Run) (text : List ℕ) where
  -- a verdict as an end
  record Judged (v : Verdict) : Type 0 where
    lines : List Line
    rest : List ℕ
    last : View
    accepts : Accepts run text lines rest last
    ends : Ends last rest (0 + length lines) v

  judged : (v : Verdict) → IsVerdict run text v → Judged v
  judged (Replayed ys) a = record { lines = a.lines; rest = []; last = a.last; accepts = a.accepts; ends = record { over = refl; ends = a.ends; out = a.out } }
  judged (BadLine n) a = record { lines = a.lines; rest = a.rest; last = a.last; accepts = a.accepts; ends = record { number = one-up n (length a.lines) a.number; more = a.more; bad = a.bad } }
    where
      one-up : (n l : ℕ) → n ≡ l + 1 → n ≡ 0 + l + 1
      one-up n l e = omega (arith, e)
  judged (NotEnabled n) a = record {
    lines = a.lines;
    rest = a.rest;
    last = a.last;
    accepts = a.accepts;
    ends = record { number = one-up n (length a.lines) a.number; line = a.line; after = a.after; is = a.is; sound = a.sound; idle = a.idle };
  }
    where
      one-up : (n l : ℕ) → n ≡ l + 1 → n ≡ 0 + l + 1
      one-up n l e = omega (arith, e)
  judged Unfinished a = record { lines = a.lines; rest = []; last = a.last; accepts = a.accepts; ends = record { over = refl; sound = a.sound; busy = a.busy } }

  -- ONE VERDICT
  pub only_verdict : (v w : Verdict) → IsVerdict run text v → IsVerdict run text w → v ≡ w
  only_verdict v w a b =
      let x = judged v a in
      let y = judged w b in
      meet x.lines y.lines x.rest y.rest (start_view run) x.last y.last 0 v w x.accepts.front.are_lines y.accepts.front.are_lines (sym x.accepts.front.text_is ∙ y.accepts.front.text_is)
      x.accepts.leads y.accepts.leads x.ends y.ends

  -- an end is a verdict
  pub verdict : (lines : List Line) (rest : List ℕ) (last : View) (v : Verdict) → Accepts run text lines rest last → Ends last rest (length lines) v → IsVerdict run text v
  verdict lines rest last (Replayed ys) accepts ends =
      record { lines = lines; last = last; accepts = subst (λ xs. Accepts run text lines xs last) ends.over accepts; ends = ends.ends; out = ends.out }
  verdict lines rest last (BadLine n) accepts ends = record { lines = lines; last = last; rest = rest; accepts = accepts; number = ends.number; more = ends.more; bad = ends.bad }
  verdict lines rest last (NotEnabled n) accepts ends = record {
    lines = lines;
    last = last;
    rest = rest;
    accepts = accepts;
    number = ends.number;
    line = ends.line;
    after = ends.after;
    is = ends.is;
    sound = ends.sound;
    idle = ends.idle;
  }
  verdict lines rest last Unfinished accepts ends =
      record { lines = lines; last = last; accepts = subst (λ xs. Accepts run text lines xs last) ends.over accepts; sound = ends.sound; busy = ends.busy }

  -- NO TEXT IS WITHOUT A VERDICT
  either : {P : Type 0} → (P ⊎ (P → ⊥) → ⊥) → ⊥
  either k = k (inr (λ p. k (inl p)))

  more : (x : ℕ) (xs : List ℕ) → x ∷ xs ≢ []
  more x xs e = cc

  module _ (none : (v : Verdict) → IsVerdict run text v → ⊥) where
    is : (v : Verdict) (lines : List Line) (rest : List ℕ) (last : View) → Accepts run text lines rest last → Ends last rest (length lines) v → ⊥
    is v lines rest last accepts ends = none v (verdict lines rest last v accepts ends)

    walk : (fuel : ℕ) (lines : List Line) (rest : List ℕ) (last : View) (fault : Bool) → has_fault last ≡ fault → length rest ≤ fuel → Accepts run text lines rest last → ⊥
    walk fuel lines [] last true h short accepts = is (Replayed last.out) lines [] last accepts (record { over = refl; ends = inr h; out = refl })
    walk fuel lines (x ∷ xs) last true h short accepts = is (BadLine (length lines + 1)) lines (x ∷ xs) last accepts (record { number = refl; more = more x xs; bad = inl h })
    walk fuel lines [] last false h short accepts = either {P = AtRest last} (λ c. elim c [
      | inl rest ↦ is (Replayed last.out) lines [] last accepts (record { over = refl; ends = inl rest; out = refl })
      | inr busy ↦ is Unfinished lines [] last accepts (record { over = refl; sound = h; busy = busy })
    ])
    walk zero lines (x ∷ xs) last false h short accepts = omega (arith, short)
    walk (suc fuel) lines (x ∷ xs) last false h short accepts =
        let goes : (l : Line) (after : List ℕ) → BeginsWith l after (x ∷ xs) → (e : Happening) → Names l e → IsEnabled last e → ⊥ = λ l after front e named may.
        let further : length after ≤ fuel = (let s : length after + 1 ≤ length (x ∷ xs) = shorter l after (x ∷ xs) front in omega (arith, s, short)) in
        walk fuel (lines ++ l ∷ []) after (Next last e) (has_fault (Next last e)) refl further
        (record {
          front = front_on lines l (x ∷ xs) after text accepts.front front;
          leads = leads_on lines l (start_view run) last (Next last e) accepts.leads (record { event = e; named = named; may = may; sound = h; is_next = refl });
        }) in
        either {P = (l : Line) × (after : List ℕ) × BeginsWith l after (x ∷ xs)} (λ c. elim c [
          | inl (l, after, front) ↦
              is (NotEnabled (length lines + 1)) lines (x ∷ xs) last accepts
              (record { number = refl; line = l; after = after; is = front; sound = h; idle = λ e named may. goes l after front e named may })
          | inr bad ↦ is (BadLine (length lines + 1)) lines (x ∷ xs) last accepts (record { number = refl; more = more x xs; bad = inr (λ l after front. bad (l, after, front)) })
        ])

  pub some_verdict : ((v : Verdict) → IsVerdict run text v → ⊥) → ⊥
  some_verdict none =
      walk none (length text) [] text (start_view run) (has_fault (start_view run)) refl (omega arith) (record { front = record { are_lines = tt; text_is = refl }; leads = refl })
