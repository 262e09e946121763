-- The parsers that a network's parser embeds: what completes them goes on as what completes the network.
use Rattle.std.proofs.Common.{ℕ, List, [], ◌∷◌, ◌≡◌, ◌↔◌, Result, Ok, Err, refl, sym, ◌∙◌, ap, subst}
use Rattle.sn_ast.specs.Kept.{Kept, kept}
use Rattle.sn_ast.specs.Labels.{Labels, variant}
use Rattle.sn_ast.specs.Networks.{Filter, with_guarded_star}
use Rattle.sn_ast.specs.Rows.{append}
use Rattle.sn_ast.specs.TagExprs.{TagExpr}
use Rattle.sn_ast.specs.declared.label.LabelAt.{LabelAt}
use Rattle.sn_ast.specs.declared.label.Variant.{Variant}
use Rattle.sn_ast.specs.declared.network.NetExpr.{NetExpr}
use Rattle.sn_ast.specs.declared.tag_expr.TExpr.{TExpr}
use Rattle.sn_ast.specs.declared.terminal.Bracket.TheVariants.{Brace}
use Rattle.sn_ast.specs.declared.terminal.Symbol.{Symbol as SomeSymbol}
use Rattle.sn_ast.specs.declared.terminal.Symbol.TheVariants.{OpenBrace, OpenParen, CloseParen, CloseBracket}
use Rattle.sn_ast.specs.declared.terminal.Terminal.{Terminal}
use Rattle.sn_ast.specs.declared.terminal.Terminal.TheVariants.{Symbol}
use Rattle.sn_expr_parser.specs.TagResidual.{Completes as GuardCompletes, Read as GuardRead, read as read_guard, ends as ends_guard}
use Rattle.sn_expr_parser.specs.declared.tags.TagParser.{TagParser}
use Rattle.sn_filter_parser.specs.FilterResidual.{Completes as FilterCompletes}
use Rattle.sn_filter_parser.specs.declared.filter.FilterParser.{FilterParser}
use Rattle.sn_net_parser.specs.Residual.{Down, AfterBracket, InFilter, AfterPattern, NextPattern, InPattern, NextGuard, InGuard, AfterExit, NextExit, InExit, GuardSteps, StepsIn, Read, variant_at, closed_bracket, some_filter, in_filter, next_pattern, in_pattern, next_guard, in_guard, next_exit, in_exit}
use Rattle.sn_net_parser.specs.declared.level.Level.{Level}
use Rattle.sn_net_parser.specs.declared.machine.Around.{Around}
use Rattle.sn_net_parser.specs.declared.machine.Mode.TheVariants as mode
use Rattle.sn_net_parser.specs.declared.machine.NetParser.{NetParser}
use Rattle.sn_net_parser.specs.declared.machine.NetStop.{NetStop}
use Rattle.sn_net_parser.specs.declared.machine.NetStop.TheVariants.{Memory, Refused, Ended}
use Rattle.sn_net_parser.specs.declared.node.Repeated.{Repeated}
use Rattle.sn_type_parser.specs.LabelResidual.{Completes as LabelsComplete}
use Rattle.sn_type_parser.specs.Reads.{Read as SomeRead, read as read_part}
use Rattle.sn_type_parser.specs.declared.labels.LabelParser.{LabelParser}

-- a filter
filter_go : {ls : List Level} {l : Level} {at : ℕ} {s : FilterParser} {x : Terminal} {w : List Terminal} {t : Read} →
    ((w us : List Terminal) (n : Kept NetExpr) → Filter kept at w n us → FilterCompletes s w (read_part n us)) →
    ((close : ℕ) → x ≡ Symbol CloseBracket close → ⊥) → AfterBracket ls l at (x ∷ w) t → InFilter ls l s (x ∷ w) t
filter_go from n (closed_bracket {close = close} d) = absurd (n close refl)
filter_go {x = x} {w = w} from n (some_filter {n = p} {us = us} f d) = in_filter p us (from (x ∷ w) us p f) d

filter_back : {ls : List Level} {l : Level} {at : ℕ} {s : FilterParser} {w : List Terminal} {t : Read} →
    ((w : List Terminal) (r : SomeRead (Kept NetExpr)) → FilterCompletes s w r → Filter kept at w r.part r.rest) → InFilter ls l s w t → AfterBracket ls l at w t
filter_back {w = w} to (in_filter p us c d) = some_filter (to w (read_part p us) c) d

pub filter_start : (ls : List Level) (l : Level) (at : ℕ) (s : FilterParser) (x : Terminal) →
    ((w us : List Terminal) (n : Kept NetExpr) → Filter kept at w n us → FilterCompletes s w (read_part n us)) →
    ((w : List Terminal) (r : SomeRead (Kept NetExpr)) → FilterCompletes s w r → Filter kept at w r.part r.rest) →
    ((close : ℕ) → x ≡ Symbol CloseBracket close → ⊥) → (w : List Terminal) (t : Read) →
    AfterBracket ls l at (x ∷ w) t ↔ InFilter ls l s (x ∷ w) t
filter_start ls l at s x from to n w t = (filter_go from n, filter_back to)

pub filter_more : (ls : List Level) (l : Level) (s s' : FilterParser) (x : Terminal) →
    ((w : List Terminal) (r : SomeRead (Kept NetExpr)) → FilterCompletes s (x ∷ w) r ↔ FilterCompletes s' w r) → (w : List Terminal) (t : Read) →
    InFilter ls l s (x ∷ w) t ↔ InFilter ls l s' w t
filter_more ls l s s' x h w t = (go, back)
  where
    go : InFilter ls l s (x ∷ w) t → InFilter ls l s' w t
    go (in_filter p us c d) = in_filter p us ((h w (read_part p us)).0 c) d

    back : InFilter ls l s' w t → InFilter ls l s (x ∷ w) t
    back (in_filter p us c d) = in_filter p us ((h w (read_part p us)).1 c) d

pub filter_done : (ls : List Level) (l : Level) (s : FilterParser) (n : Kept NetExpr) (x : Terminal) →
    ((w : List Terminal) (r : SomeRead (Kept NetExpr)) → FilterCompletes s (x ∷ w) r ↔ (read_part n w ≡ r)) → (w : List Terminal) (t : Read) →
    InFilter ls l s (x ∷ w) t ↔ Down ls l n w t
filter_done ls l s n x h w t = (go, back)
  where
    go : InFilter ls l s (x ∷ w) t → Down ls l n w t
    go (in_filter p us c d) =
        let e = (h w (read_part p us)).0 c in
        let P : SomeRead (Kept NetExpr) → Type 0 = λ r. Down ls l r.part r.rest t in
        subst P (sym e) d

    back : Down ls l n w t → InFilter ls l s (x ∷ w) t
    back d = in_filter n w ((h w (read_part n w)).1 refl) d

pub filter_refused : (ls : List Level) (l : Level) (s : FilterParser) (x : Terminal) →
    ((w : List Terminal) (r : SomeRead (Kept NetExpr)) → FilterCompletes s (x ∷ w) r → ⊥) → (w : List Terminal) (t : Read) → InFilter ls l s (x ∷ w) t → ⊥
filter_refused ls l s x h w t (in_filter p us c d) = h w (read_part p us) c

-- a pattern of a synchrocell
pub pattern_start : (ls : List Level) (l : Level) (at : ℕ) (so_far : List Variant) (opening : ℕ) (s : LabelParser) →
    ((w us : List Terminal) (all : List LabelAt) → Labels Brace w all us → LabelsComplete s w (read_part all us)) →
    ((w : List Terminal) (r : SomeRead (List LabelAt)) → LabelsComplete s w r → Labels Brace w r.part r.rest) → (w : List Terminal) (t : Read) →
    NextPattern ls l at so_far (Symbol OpenBrace opening ∷ w) t ↔ InPattern ls l at so_far opening s w t
pattern_start ls l at so_far opening s from to w t = (go, back)
  where
    go : NextPattern ls l at so_far (Symbol OpenBrace opening ∷ w) t → InPattern ls l at so_far opening s w t
    go (next_pattern (variant {all} {us = us} v) a) = in_pattern all us (from w us all v) a

    back : InPattern ls l at so_far opening s w t → NextPattern ls l at so_far (Symbol OpenBrace opening ∷ w) t
    back (in_pattern all us c a) = next_pattern (variant (to w (read_part all us) c)) a

pub pattern_more : (ls : List Level) (l : Level) (at : ℕ) (so_far : List Variant) (opening : ℕ) (s s' : LabelParser) (x : Terminal) →
    ((w : List Terminal) (r : SomeRead (List LabelAt)) → LabelsComplete s (x ∷ w) r ↔ LabelsComplete s' w r) → (w : List Terminal) (t : Read) →
    InPattern ls l at so_far opening s (x ∷ w) t ↔ InPattern ls l at so_far opening s' w t
pattern_more ls l at so_far opening s s' x h w t = (go, back)
  where
    go : InPattern ls l at so_far opening s (x ∷ w) t → InPattern ls l at so_far opening s' w t
    go (in_pattern all us c a) = in_pattern all us ((h w (read_part all us)).0 c) a

    back : InPattern ls l at so_far opening s' w t → InPattern ls l at so_far opening s (x ∷ w) t
    back (in_pattern all us c a) = in_pattern all us ((h w (read_part all us)).1 c) a

pub pattern_done : (ls : List Level) (l : Level) (at : ℕ) (so_far next : List Variant) (opening : ℕ) (s : LabelParser) (labels : List LabelAt) (x : Terminal) →
    ((w : List Terminal) (r : SomeRead (List LabelAt)) → LabelsComplete s (x ∷ w) r ↔ (read_part labels w ≡ r)) →
    next ≡ append so_far (variant_at opening labels) → (w : List Terminal) (t : Read) →
    InPattern ls l at so_far opening s (x ∷ w) t ↔ AfterPattern ls l at next w t
pattern_done ls l at so_far next opening s labels x h e w t = rw e (go, back)
  where
    go : InPattern ls l at so_far opening s (x ∷ w) t → AfterPattern ls l at (append so_far (variant_at opening labels)) w t
    go (in_pattern all us c a) =
        let e = (h w (read_part all us)).0 c in
        let P : SomeRead (List LabelAt) → Type 0 = λ r. AfterPattern ls l at (append so_far (variant_at opening r.part)) r.rest t in
        subst P (sym e) a

    back : AfterPattern ls l at (append so_far (variant_at opening labels)) w t → InPattern ls l at so_far opening s (x ∷ w) t
    back a = in_pattern labels w ((h w (read_part labels w)).1 refl) a

pub pattern_refused : (ls : List Level) (l : Level) (at : ℕ) (so_far : List Variant) (opening : ℕ) (s : LabelParser) (x : Terminal) →
    ((w : List Terminal) (r : SomeRead (List LabelAt)) → LabelsComplete s (x ∷ w) r → ⊥) → (w : List Terminal) (t : Read) →
    InPattern ls l at so_far opening s (x ∷ w) t → ⊥
pattern_refused ls l at so_far opening s x h w t (in_pattern all us c a) = h w (read_part all us) c

-- a star's exit
pub exit_start : (ls : List Level) (l : Level) (star : Repeated) (opening : ℕ) (s : LabelParser) →
    ((w us : List Terminal) (all : List LabelAt) → Labels Brace w all us → LabelsComplete s w (read_part all us)) →
    ((w : List Terminal) (r : SomeRead (List LabelAt)) → LabelsComplete s w r → Labels Brace w r.part r.rest) → (w : List Terminal) (t : Read) →
    NextExit ls l star (Symbol OpenBrace opening ∷ w) t ↔ InExit ls l star opening s w t
exit_start ls l star opening s from to w t = (go, back)
  where
    go : NextExit ls l star (Symbol OpenBrace opening ∷ w) t → InExit ls l star opening s w t
    go (next_exit (variant {all} {us = us} v) a) = in_exit all us (from w us all v) a

    back : InExit ls l star opening s w t → NextExit ls l star (Symbol OpenBrace opening ∷ w) t
    back (in_exit all us c a) = next_exit (variant (to w (read_part all us) c)) a

pub exit_more : (ls : List Level) (l : Level) (star : Repeated) (opening : ℕ) (s s' : LabelParser) (x : Terminal) →
    ((w : List Terminal) (r : SomeRead (List LabelAt)) → LabelsComplete s (x ∷ w) r ↔ LabelsComplete s' w r) → (w : List Terminal) (t : Read) →
    InExit ls l star opening s (x ∷ w) t ↔ InExit ls l star opening s' w t
exit_more ls l star opening s s' x h w t = (go, back)
  where
    go : InExit ls l star opening s (x ∷ w) t → InExit ls l star opening s' w t
    go (in_exit all us c a) = in_exit all us ((h w (read_part all us)).0 c) a

    back : InExit ls l star opening s' w t → InExit ls l star opening s (x ∷ w) t
    back (in_exit all us c a) = in_exit all us ((h w (read_part all us)).1 c) a

pub exit_done : (ls : List Level) (l : Level) (star : Repeated) (opening : ℕ) (s : LabelParser) (labels : List LabelAt) (x : Terminal) →
    ((w : List Terminal) (r : SomeRead (List LabelAt)) → LabelsComplete s (x ∷ w) r ↔ (read_part labels w ≡ r)) → (w : List Terminal) (t : Read) →
    InExit ls l star opening s (x ∷ w) t ↔ AfterExit ls l star (variant_at opening labels) w t
exit_done ls l star opening s labels x h w t = (go, back)
  where
    go : InExit ls l star opening s (x ∷ w) t → AfterExit ls l star (variant_at opening labels) w t
    go (in_exit all us c a) =
        let e = (h w (read_part all us)).0 c in
        let P : SomeRead (List LabelAt) → Type 0 = λ r. AfterExit ls l star (variant_at opening r.part) r.rest t in
        subst P (sym e) a

    back : AfterExit ls l star (variant_at opening labels) w t → InExit ls l star opening s (x ∷ w) t
    back a = in_exit labels w ((h w (read_part labels w)).1 refl) a

pub exit_refused : (ls : List Level) (l : Level) (star : Repeated) (opening : ℕ) (s : LabelParser) (x : Terminal) →
    ((w : List Terminal) (r : SomeRead (List LabelAt)) → LabelsComplete s (x ∷ w) r → ⊥) → (w : List Terminal) (t : Read) →
    InExit ls l star opening s (x ∷ w) t → ⊥
exit_refused ls l star opening s x h w t (in_exit all us c a) = h w (read_part all us) c

-- a guard
pub guard_start : (ls : List Level) (l : Level) (star : Repeated) (v : Variant) (at : ℕ) (s : TagParser) →
    ((w us : List Terminal) (e : Kept TExpr) → TagExpr kept w e us → ends_guard us → GuardCompletes s w (read_guard e us)) →
    ((w : List Terminal) (r : GuardRead) → GuardCompletes s w r → TagExpr kept w r.part r.rest × ends_guard r.rest) → (w : List Terminal) (t : Read) →
    NextGuard ls l star v (Symbol OpenParen at ∷ w) t ↔ InGuard ls l star v s w t
guard_start ls l star v at s from to w t = (go, back)
  where
    go : NextGuard ls l star v (Symbol OpenParen at ∷ w) t → InGuard ls l star v s w t
    go (next_guard {close} {g = g} {us = us} e d) = in_guard close g us (from w (Symbol CloseParen close ∷ us) g e refl) d

    back : InGuard ls l star v s w t → NextGuard ls l star v (Symbol OpenParen at ∷ w) t
    back (in_guard close g us c d) = next_guard (to w (read_guard g (Symbol CloseParen close ∷ us)) c).0 d

pub guard_more : (ls : List Level) (l : Level) (star : Repeated) (v : Variant) (s s' : TagParser) (x : Terminal) →
    ((w : List Terminal) (r : GuardRead) → GuardCompletes s (x ∷ w) r ↔ GuardCompletes s' w r) → (w : List Terminal) (t : Read) →
    InGuard ls l star v s (x ∷ w) t ↔ InGuard ls l star v s' w t
guard_more ls l star v s s' x h w t = (go, back)
  where
    go : InGuard ls l star v s (x ∷ w) t → InGuard ls l star v s' w t
    go (in_guard close g us c d) = in_guard close g us ((h w (read_guard g (Symbol CloseParen close ∷ us))).0 c) d

    back : InGuard ls l star v s' w t → InGuard ls l star v s (x ∷ w) t
    back (in_guard close g us c d) = in_guard close g us ((h w (read_guard g (Symbol CloseParen close ∷ us))).1 c) d

pub guard_refused : (ls : List Level) (l : Level) (star : Repeated) (v : Variant) (s : TagParser) (x : Terminal) →
    ((w : List Terminal) (r : GuardRead) → GuardCompletes s (x ∷ w) r → ⊥) → (w : List Terminal) (t : Read) → InGuard ls l star v s (x ∷ w) t → ⊥
guard_refused ls l star v s x h w t (in_guard close g us c d) = h w (read_guard g (Symbol CloseParen close ∷ us)) c

-- where the guard ended at the symbol y
module _ (a : Around) (star : Repeated) (v : Variant) (s : TagParser) (g : Kept TExpr) (y : SomeSymbol) (at : ℕ) (x : Terminal)
    (h : (x ≡ Symbol y at) × ((w : List Terminal) (r : GuardRead) → GuardCompletes s (x ∷ w) r ↔ (read_guard g (x ∷ w) ≡ r))) where
  head : List Terminal → Terminal
  head [] = x
  head (z ∷ zs) = z

  tail : List Terminal → List Terminal
  tail [] = []
  tail (z ∷ zs) = zs

  ended_from : (w : List Terminal) (t : Read) → InGuard a.outer a.level star v s (x ∷ w) t → (y ≡ CloseParen) × Down a.outer a.level (with_guarded_star kept star.det star.at star.body v g) w t
  unfolding head tail
  ended_from w t (in_guard close p us c d) =
      let e = (h.1 w (read_guard p (Symbol CloseParen close ∷ us))).0 c in
      let i : x ≡ Symbol CloseParen close = ap (λ r. head r.rest) e in
      let j : Symbol y at ≡ Symbol CloseParen close = sym h.0 ∙ i in
      let P : GuardRead → Type 0 = λ r. Down a.outer a.level (with_guarded_star kept star.det star.at star.body v r.part) (tail r.rest) t in
      (cc, subst P (sym e) d)

  ended_to : y ≡ CloseParen → (w : List Terminal) (t : Read) → Down a.outer a.level (with_guarded_star kept star.det star.at star.body v g) w t → InGuard a.outer a.level star v s (x ∷ w) t
  ended_to k w t d =
      let i : x ≡ Symbol CloseParen at = h.0 ∙ ap (λ z. Symbol z at) k in
      in_guard at g w ((h.1 w (read_guard g (Symbol CloseParen at ∷ w))).1 (ap (λ z. read_guard g (z ∷ w)) i)) d

  pub guard_ended : (r : Result NetParser NetStop) → GuardSteps a star v g y r → StepsIn a (mode.InGuard star v s) x r
  guard_ended (Ok state) k = λ w t. (λ z. (k.1 w t).0 (ended_from w t z).1, λ z. ended_to k.0 w t ((k.1 w t).1 z))
  guard_ended (Err Memory) k = tt
  guard_ended (Err Refused) k = λ w t z. k (ended_from w t z).0
  guard_ended (Err (Ended n place)) k = absurd k
