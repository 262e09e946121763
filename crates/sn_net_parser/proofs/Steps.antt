-- One token at a time: what completes the state before it begins with it, and goes on as what completes the state after it.
use Rattle.std.specs.Prelude.{int_lt, unsigned_abs, negsuc}
use Rattle.std.proofs.Common.{ℕ, ℤ, pos, Bool, true, false, List, [], ◌∷◌, ◌≡◌, ◌↔◌, Some, None, refl, sym, ◌∙◌, subst}
use Rattle.sn_ast.specs.Kept.{Kept, kept}
use Rattle.sn_ast.specs.Labels.{variant}
use Rattle.sn_ast.specs.Networks.{filter, Network, GoesOn, name, identity, filtered, sync, parens, patterns, last_pattern, more_patterns, post, bare, star, guarded_star, split, spread_split, placed, serial, last, dots, network, final, branch, sync_at, with_place, with_split, with_star}
use Rattle.sn_ast.specs.Terminals.{link_of}
use Rattle.sn_ast.specs.declared.label.Ident.{Ident}
use Rattle.sn_ast.specs.declared.label.Variant.{Variant}
use Rattle.sn_ast.specs.declared.network.NetExpr.{NetExpr}
use Rattle.sn_ast.specs.declared.terminal.Keyword.TheVariants.{If}
use Rattle.sn_ast.specs.declared.terminal.Link.TheVariants.{Branch as BranchLink, Star as StarLink, Split as SplitLink, Place as PlaceLink}
use Rattle.sn_ast.specs.declared.terminal.Symbol.{Symbol as SomeSymbol}
use Rattle.sn_ast.specs.declared.terminal.Symbol.TheVariants.{OpenParen, CloseParen, OpenBrace, OpenBracket, CloseBracket, OpenSync, CloseSync, Comma, Dots, Semicolon, At}
use Rattle.sn_ast.specs.declared.terminal.Terminal.{Terminal}
use Rattle.sn_ast.specs.declared.terminal.Terminal.TheVariants.{Name, Tag, Number, Keyword, Symbol}
use Rattle.sn_net_parser.specs.Levels.{after_bar, after_dots, finished, fresh, identity_node, name_node}
use Rattle.sn_net_parser.specs.Residual.{Down, Next, AfterBracket, AfterPattern, NextPattern, NextGuard, AfterExit, NextExit, NextTag, NextSpreadTag, NextNode, Read, read, Ends, semicolon, whole, closed, down, next, closed_bracket, some_filter, after_pattern, next_pattern, next_guard, unguarded, guarded, next_exit, next_tag, next_mark, next_spread_tag, next_node}
use Rattle.sn_net_parser.specs.declared.level.Level.{Level}
use Rattle.sn_net_parser.specs.declared.node.Placing.{Placing}
use Rattle.sn_net_parser.specs.declared.node.Repeated.{Repeated}

pub name_from : {ls : List Level} {l : Level} {w : List Terminal} {t : Read} {i : Ident} → Next ls l (Name i ∷ w) t → Down ls l (name_node i) w t
name_from (next name d) = d

pub name_to : {ls : List Level} {l : Level} {w : List Terminal} {t : Read} {i : Ident} → Down ls l (name_node i) w t → Next ls l (Name i ∷ w) t
name_to d = next name d

pub paren_from : {ls : List Level} {l : Level} {w : List Terminal} {t : Read} {at : ℕ} → Next ls l (Symbol OpenParen at ∷ w) t → Next (l ∷ ls) fresh w t
paren_from (next (parens (network (serial (post a ps) m) o)) d) = next a (down ps m o (closed d))

pub paren_to : {ls : List Level} {l : Level} {w : List Terminal} {t : Read} {at : ℕ} → Next (l ∷ ls) fresh w t → Next ls l (Symbol OpenParen at ∷ w) t
paren_to (next a (down ps m o (closed d))) = next (parens (network (serial (post a ps) m) o)) d

pub bracket_from : {ls : List Level} {l : Level} {w : List Terminal} {t : Read} {at : ℕ} → Next ls l (Symbol OpenBracket at ∷ w) t → AfterBracket ls l at w t
bracket_from (next identity d) = closed_bracket d
bracket_from (next (filtered f) d) = some_filter f d

pub bracket_to : {ls : List Level} {l : Level} {w : List Terminal} {t : Read} {at : ℕ} → AfterBracket ls l at w t → Next ls l (Symbol OpenBracket at ∷ w) t
bracket_to (closed_bracket d) = next identity d
bracket_to (some_filter f d) = next (filtered f) d

pub sync_from : {ls : List Level} {l : Level} {w : List Terminal} {t : Read} {at : ℕ} → Next ls l (Symbol OpenSync at ∷ w) t → NextPattern ls l at [] w t
sync_from (next (sync (patterns v m)) d) = next_pattern v (after_pattern m d)

pub sync_to : {ls : List Level} {l : Level} {w : List Terminal} {t : Read} {at : ℕ} → NextPattern ls l at [] w t → Next ls l (Symbol OpenSync at ∷ w) t
sync_to (next_pattern v (after_pattern m d)) = next (sync (patterns v m)) d

pub identity_from : {ls : List Level} {l : Level} {w : List Terminal} {t : Read} {at close : ℕ} → AfterBracket ls l at (Symbol CloseBracket close ∷ w) t → Down ls l (identity_node at) w t
identity_from (closed_bracket d) = d
identity_from (some_filter (filter v a b) d) = elim v [ ]

pub identity_to : {ls : List Level} {l : Level} {w : List Terminal} {t : Read} {at close : ℕ} → Down ls l (identity_node at) w t → AfterBracket ls l at (Symbol CloseBracket close ∷ w) t
identity_to d = closed_bracket d

pub comma_from : {ls : List Level} {l : Level} {w : List Terminal} {t : Read} {at comma : ℕ} {so_far : List Variant} → AfterPattern ls l at so_far (Symbol Comma comma ∷ w) t → NextPattern ls l at so_far w t
comma_from (after_pattern (more_patterns v m) d) = next_pattern v (after_pattern m d)

pub comma_to : {ls : List Level} {l : Level} {w : List Terminal} {t : Read} {at comma : ℕ} {so_far : List Variant} → NextPattern ls l at so_far w t → AfterPattern ls l at so_far (Symbol Comma comma ∷ w) t
comma_to (next_pattern v (after_pattern m d)) = after_pattern (more_patterns v m) d

pub cell_from : {ls : List Level} {l : Level} {w : List Terminal} {t : Read} {at close : ℕ} {so_far : List Variant} → AfterPattern ls l at so_far (Symbol CloseSync close ∷ w) t → Down ls l (kept.leaf (sync_at at so_far)) w t
cell_from (after_pattern last_pattern d) = d

pub cell_to : {ls : List Level} {l : Level} {w : List Terminal} {t : Read} {at close : ℕ} {so_far : List Variant} → Down ls l (kept.leaf (sync_at at so_far)) w t → AfterPattern ls l at so_far (Symbol CloseSync close ∷ w) t
cell_to d = after_pattern last_pattern d

pub dots_from : {ls : List Level} {l : Level} {w : List Terminal} {t : Read} {p : Kept NetExpr} {at : ℕ} → Down ls l p (Symbol Dots at ∷ w) t → Next ls (after_dots l at p) w t
dots_from (down bare (dots (post a ps) m) o u) = next a (down ps m o u)
dots_from (down bare last final u) = elim u [ ]
dots_from (down bare last (branch e g q o) u) = absurd cc
dots_from (down (star e v ps) m o u) = absurd cc
dots_from (down (guarded_star e v g ps) m o u) = absurd cc
dots_from (down (split e ps) m o u) = absurd cc
dots_from (down (spread_split e ps) m o u) = absurd cc
dots_from (down (placed e ps) m o u) = absurd cc

pub dots_to : {ls : List Level} {l : Level} {w : List Terminal} {t : Read} {p : Kept NetExpr} {at : ℕ} → Next ls (after_dots l at p) w t → Down ls l p (Symbol Dots at ∷ w) t
dots_to (next a (down ps m o u)) = down bare (dots (post a ps) m) o u

same_branch : (s : SomeSymbol) {d e : Bool} → link_of s ≡ Some (BranchLink d) → link_of s ≡ Some (BranchLink e) → d ≡ e
same_branch s {d} {e} p q = let r : Some (BranchLink d) ≡ Some (BranchLink e) = sym p ∙ q in cc

same_star : (s : SomeSymbol) {d e : Bool} → link_of s ≡ Some (StarLink d) → link_of s ≡ Some (StarLink e) → d ≡ e
same_star s {d} {e} p q = let r : Some (StarLink d) ≡ Some (StarLink e) = sym p ∙ q in cc

same_split : (s : SomeSymbol) {d e : Bool} → link_of s ≡ Some (SplitLink d) → link_of s ≡ Some (SplitLink e) → d ≡ e
same_split s {d} {e} p q = let r : Some (SplitLink d) ≡ Some (SplitLink e) = sym p ∙ q in cc

pub branch_from : {ls : List Level} {l : Level} {w : List Terminal} {t : Read} {p : Kept NetExpr} {at : ℕ} {s : SomeSymbol} {det : Bool} →
    link_of s ≡ Some (BranchLink det) → Down ls l p (Symbol s at ∷ w) t → GoesOn l.choice det × Next ls (after_bar l det at p) w t
branch_from {s} i (down bare last (branch e g (serial (post a ps) m) o) u) = rw (same_branch s i e) (g, next a (down ps m o u))
branch_from i (down bare last final whole) = absurd cc
branch_from i (down bare last final (closed d)) = absurd cc
branch_from i (down bare (dots q m) o u) = absurd cc
branch_from i (down (star e v ps) m o u) = absurd cc
branch_from i (down (guarded_star e v g ps) m o u) = absurd cc
branch_from i (down (split e ps) m o u) = absurd cc
branch_from i (down (spread_split e ps) m o u) = absurd cc
branch_from i (down (placed e ps) m o u) = absurd cc

pub branch_to : {ls : List Level} {l : Level} {w : List Terminal} {t : Read} {p : Kept NetExpr} {at : ℕ} {s : SomeSymbol} {det : Bool} →
    link_of s ≡ Some (BranchLink det) → GoesOn l.choice det → Next ls (after_bar l det at p) w t → Down ls l p (Symbol s at ∷ w) t
branch_to i g (next a (down ps m o u)) = down bare last (branch i g (serial (post a ps) m) o) u

abbrev pub repeated : Bool → ℕ → Kept NetExpr → Repeated
repeated det at p = record { det = det; at = at; body = p }

pub star_from : {ls : List Level} {l : Level} {w : List Terminal} {t : Read} {p : Kept NetExpr} {at : ℕ} {s : SomeSymbol} {det : Bool} →
    link_of s ≡ Some (StarLink det) → Down ls l p (Symbol s at ∷ w) t → NextExit ls l (repeated det at p) w t
star_from {s} i (down (star e v ps) m o u) = rw (same_star s i e) (next_exit v (unguarded (down ps m o u)))
star_from {s} i (down (guarded_star e v g ps) m o u) = rw (same_star s i e) (next_exit v (guarded (next_guard g (down ps m o u))))
star_from i (down (split e ps) m o u) = absurd cc
star_from i (down (spread_split e ps) m o u) = absurd cc
star_from i (down (placed e ps) m o u) = absurd cc
star_from i (down bare last (branch e g q o) u) = absurd cc
star_from i (down bare last final whole) = absurd cc
star_from i (down bare last final (closed d)) = absurd cc
star_from i (down bare (dots q m) o u) = absurd cc

pub star_to : {ls : List Level} {l : Level} {w : List Terminal} {t : Read} {p : Kept NetExpr} {at : ℕ} {s : SomeSymbol} {det : Bool} →
    link_of s ≡ Some (StarLink det) → NextExit ls l (repeated det at p) w t → Down ls l p (Symbol s at ∷ w) t
star_to i (next_exit v (unguarded (down ps m o u))) = down (star i v ps) m o u
star_to i (next_exit v (guarded (next_guard g (down ps m o u)))) = down (guarded_star i v g ps) m o u

pub split_from : {ls : List Level} {l : Level} {w : List Terminal} {t : Read} {p : Kept NetExpr} {at : ℕ} {s : SomeSymbol} {det : Bool} →
    link_of s ≡ Some (SplitLink det) → Down ls l p (Symbol s at ∷ w) t → NextTag ls l (repeated det at p) w t
split_from {s} i (down (split e ps) m o u) = rw (same_split s i e) (next_tag (down ps m o u))
split_from {s} i (down (spread_split e ps) m o u) = rw (same_split s i e) (next_mark (next_spread_tag (down ps m o u)))
split_from i (down (placed e ps) m o u) = absurd cc
split_from i (down (star e v ps) m o u) = absurd cc
split_from i (down (guarded_star e v g ps) m o u) = absurd cc
split_from i (down bare last (branch e g q o) u) = absurd cc
split_from i (down bare last final whole) = absurd cc
split_from i (down bare last final (closed d)) = absurd cc
split_from i (down bare (dots q m) o u) = absurd cc

pub split_to : {ls : List Level} {l : Level} {w : List Terminal} {t : Read} {p : Kept NetExpr} {at : ℕ} {s : SomeSymbol} {det : Bool} →
    link_of s ≡ Some (SplitLink det) → NextTag ls l (repeated det at p) w t → Down ls l p (Symbol s at ∷ w) t
split_to i (next_tag (down ps m o u)) = down (split i ps) m o u
split_to i (next_mark (next_spread_tag (down ps m o u))) = down (spread_split i ps) m o u

abbrev pub placing_at : ℕ → Kept NetExpr → Placing
placing_at at p = record { at = at; body = p }

pub place_from : {ls : List Level} {l : Level} {w : List Terminal} {t : Read} {p : Kept NetExpr} {at : ℕ} {s : SomeSymbol} →
    link_of s ≡ Some PlaceLink → Down ls l p (Symbol s at ∷ w) t → NextNode ls l (placing_at at p) w t
place_from i (down (placed e ps) m o u) = next_node (down ps m o u)
place_from i (down (split e ps) m o u) = absurd cc
place_from i (down (spread_split e ps) m o u) = absurd cc
place_from i (down (star e v ps) m o u) = absurd cc
place_from i (down (guarded_star e v g ps) m o u) = absurd cc
place_from i (down bare last (branch e g q o) u) = absurd cc
place_from i (down bare last final whole) = absurd cc
place_from i (down bare last final (closed d)) = absurd cc
place_from i (down bare (dots q m) o u) = absurd cc

pub place_to : {ls : List Level} {l : Level} {w : List Terminal} {t : Read} {p : Kept NetExpr} {at : ℕ} {s : SomeSymbol} →
    link_of s ≡ Some PlaceLink → NextNode ls l (placing_at at p) w t → Down ls l p (Symbol s at ∷ w) t
place_to i (next_node (down ps m o u)) = down (placed i ps) m o u

pub tag_from : {ls : List Level} {l : Level} {w : List Terminal} {t : Read} {r : Repeated} {i : Ident} → NextTag ls l r (Tag i ∷ w) t → Down ls l (with_split kept r.det false r.at r.body i) w t
tag_from (next_tag d) = d

pub tag_to : {ls : List Level} {l : Level} {w : List Terminal} {t : Read} {r : Repeated} {i : Ident} → Down ls l (with_split kept r.det false r.at r.body i) w t → NextTag ls l r (Tag i ∷ w) t
tag_to d = next_tag d

pub mark_from : {ls : List Level} {l : Level} {w : List Terminal} {t : Read} {r : Repeated} {at : ℕ} → NextTag ls l r (Symbol At at ∷ w) t → NextSpreadTag ls l r w t
mark_from (next_mark d) = d

pub mark_to : {ls : List Level} {l : Level} {w : List Terminal} {t : Read} {r : Repeated} {at : ℕ} → NextSpreadTag ls l r w t → NextTag ls l r (Symbol At at ∷ w) t
mark_to d = next_mark d

pub spread_tag_from : {ls : List Level} {l : Level} {w : List Terminal} {t : Read} {r : Repeated} {i : Ident} → NextSpreadTag ls l r (Tag i ∷ w) t → Down ls l (with_split kept r.det true r.at r.body i) w t
spread_tag_from (next_spread_tag d) = d

pub spread_tag_to : {ls : List Level} {l : Level} {w : List Terminal} {t : Read} {r : Repeated} {i : Ident} → Down ls l (with_split kept r.det true r.at r.body i) w t → NextSpreadTag ls l r (Tag i ∷ w) t
spread_tag_to d = next_spread_tag d

pub node_here : {ls : List Level} {l : Level} {w : List Terminal} {t : Read} {p : Placing} {at : ℕ} (n : ℤ) (k : ℕ) → k ≡ unsigned_abs n → int_lt n (pos 0) ≡ false →
    NextNode ls l p (Number n at ∷ w) t ↔ Down ls l (with_place kept p.at p.body k) w t
node_here {ls} {l} {w} {t} {p} {at} (pos node) k is h = rw is (from, next_node)
  where
    from : NextNode ls l p (Number (pos node) at ∷ w) t → Down ls l (with_place kept p.at p.body node) w t
    from (next_node d) = d
node_here (negsuc n) k is h = absurd cc

pub guard_if_from : {ls : List Level} {l : Level} {w : List Terminal} {t : Read} {r : Repeated} {v : Variant} {at : ℕ} → AfterExit ls l r v (Keyword If at ∷ w) t → NextGuard ls l r v w t
guard_if_from (unguarded (down bare last final u)) = elim u [ ]
guard_if_from (guarded g) = g

pub guard_if_to : {ls : List Level} {l : Level} {w : List Terminal} {t : Read} {r : Repeated} {v : Variant} {at : ℕ} → NextGuard ls l r v w t → AfterExit ls l r v (Keyword If at ∷ w) t
guard_if_to g = guarded g

pub unguarded_from : {ls : List Level} {l : Level} {r : Repeated} {v : Variant} {x : Terminal} {w : List Terminal} {t : Read} →
    ((at : ℕ) → x ≡ Keyword If at → ⊥) → AfterExit ls l r v (x ∷ w) t → Down ls l (with_star kept r.det r.at r.body v) (x ∷ w) t
unguarded_from n (unguarded d) = d
unguarded_from n (guarded {at} g) = absurd (n at refl)

pub unguarded_to : {ls : List Level} {l : Level} {r : Repeated} {v : Variant} {w : List Terminal} {t : Read} →
    Down ls l (with_star kept r.det r.at r.body v) w t → AfterExit ls l r v w t
unguarded_to d = unguarded d

pub close_from : {ls : List Level} {k l : Level} {w : List Terminal} {p : Kept NetExpr} {t : Read} {at : ℕ} → Down (k ∷ ls) l p (Symbol CloseParen at ∷ w) t → Down ls k (kept.parens (finished l p)) w t
close_from (down bare last final (closed d)) = d
close_from (down bare last (branch e g q o) u) = absurd cc
close_from (down (star e v ps) m o u) = absurd cc
close_from (down (guarded_star e v g ps) m o u) = absurd cc
close_from (down (split e ps) m o u) = absurd cc
close_from (down (spread_split e ps) m o u) = absurd cc
close_from (down (placed e ps) m o u) = absurd cc

pub close_to : {ls : List Level} {k l : Level} {w : List Terminal} {p : Kept NetExpr} {t : Read} {at : ℕ} → Down ls k (kept.parens (finished l p)) w t → Down (k ∷ ls) l p (Symbol CloseParen at ∷ w) t
close_to d = down bare last final (closed d)

pub end_from : {l : Level} {w : List Terminal} {p : Kept NetExpr} {t : Read} {at : ℕ} → Down [] l p (Symbol Semicolon at ∷ w) t → read (finished l p) (Symbol Semicolon at ∷ w) ≡ t
end_from (down bare last final whole) = refl
end_from (down bare last (branch e g q o) u) = absurd cc
end_from (down (star e v ps) m o u) = absurd cc
end_from (down (guarded_star e v g ps) m o u) = absurd cc
end_from (down (split e ps) m o u) = absurd cc
end_from (down (spread_split e ps) m o u) = absurd cc
end_from (down (placed e ps) m o u) = absurd cc

pub end_to : {l : Level} {w : List Terminal} {p : Kept NetExpr} {t : Read} {at : ℕ} → read (finished l p) (Symbol Semicolon at ∷ w) ≡ t → Down [] l p (Symbol Semicolon at ∷ w) t
end_to {l} {w} {p} {t} {at} e = let P : Read → Type 0 = λ x. Down [] l p (Symbol Semicolon at ∷ w) x in subst P e (down bare last final whole)

pub start_from : {w us : List Terminal} {n : Kept NetExpr} → Network kept w n us → Ends us → Next [] fresh w (read n us)
start_from (network (serial (post a ps) m) o) semicolon = next a (down ps m o whole)

pub start_to : {w : List Terminal} {t : Read} → Next [] fresh w t → Network kept w t.network t.rest × Ends t.rest
start_to (next a (down ps m o whole)) = (network (serial (post a ps) m) o, semicolon)

-- What may not come.
pub no_next : {ls : List Level} {l : Level} {w : List Terminal} {t : Read} (x : Terminal) → ((i : Ident) → x ≡ Name i → ⊥) → ((s : SomeSymbol) (at : ℕ) → x ≡ Symbol s at → ⊥) →
    Next ls l (x ∷ w) t → ⊥
no_next x n m (next (name {name = i}) d) = n i refl
no_next x n m (next (identity {at}) d) = m OpenBracket at refl
no_next x n m (next (filtered {at} f) d) = m OpenBracket at refl
no_next x n m (next (sync {at} p) d) = m OpenSync at refl
no_next x n m (next (parens {at} c) d) = m OpenParen at refl

pub no_next_symbol : {ls : List Level} {l : Level} {w : List Terminal} {t : Read} {at : ℕ} (s : SomeSymbol) → (s ≡ OpenParen → ⊥) → (s ≡ OpenBracket → ⊥) → (s ≡ OpenSync → ⊥) →
    Next ls l (Symbol s at ∷ w) t → ⊥
no_next_symbol s n m k (next identity d) = m refl
no_next_symbol s n m k (next (filtered f) d) = m refl
no_next_symbol s n m k (next (sync p) d) = k refl
no_next_symbol s n m k (next (parens c) d) = n refl

pub no_have : {ls : List Level} {l : Level} {w : List Terminal} {p : Kept NetExpr} {t : Read} (x : Terminal) → ((s : SomeSymbol) (at : ℕ) → x ≡ Symbol s at → ⊥) →
    Down ls l p (x ∷ w) t → ⊥
no_have x n (down bare last final (whole {at})) = n Semicolon at refl
no_have x n (down bare last final (closed {at} d)) = n CloseParen at refl
no_have x n (down bare last (branch {at} {sym} e g q o) u) = n sym at refl
no_have x n (down bare (dots {at} q m) o u) = n Dots at refl
no_have x n (down (star {at} {s} e v ps) m o u) = n s at refl
no_have x n (down (guarded_star {at} {s = s} e v g ps) m o u) = n s at refl
no_have x n (down (split {at} {s} e ps) m o u) = n s at refl
no_have x n (down (spread_split {at} {s = s} e ps) m o u) = n s at refl
no_have x n (down (placed {at} {s = s} e ps) m o u) = n s at refl

pub no_link : {ls : List Level} {l : Level} {w : List Terminal} {p : Kept NetExpr} {t : Read} {at : ℕ} (s : SomeSymbol) → link_of s ≡ None →
    (s ≡ Dots → ⊥) → (s ≡ CloseParen → ⊥) → (s ≡ Semicolon → ⊥) → Down ls l p (Symbol s at ∷ w) t → ⊥
no_link s i n m k (down bare last final whole) = k refl
no_link s i n m k (down bare last final (closed d)) = m refl
no_link s i n m k (down bare last (branch e g q o) u) = cc
no_link s i n m k (down bare (dots q r) o u) = n refl
no_link s i n m k (down (star e v ps) r o u) = cc
no_link s i n m k (down (guarded_star e v g ps) r o u) = cc
no_link s i n m k (down (split e ps) r o u) = cc
no_link s i n m k (down (spread_split e ps) r o u) = cc
no_link s i n m k (down (placed e ps) r o u) = cc

pub no_outer : {l : Level} {w : List Terminal} {p : Kept NetExpr} {t : Read} {at : ℕ} → Down [] l p (Symbol CloseParen at ∷ w) t → ⊥
no_outer (down bare last final u) = elim u [ ]
no_outer (down bare last (branch e g q o) u) = absurd cc
no_outer (down (star e v ps) m o u) = absurd cc
no_outer (down (guarded_star e v g ps) m o u) = absurd cc
no_outer (down (split e ps) m o u) = absurd cc
no_outer (down (spread_split e ps) m o u) = absurd cc
no_outer (down (placed e ps) m o u) = absurd cc

pub no_inside : {ls : List Level} {k l : Level} {w : List Terminal} {p : Kept NetExpr} {t : Read} {at : ℕ} → Down (k ∷ ls) l p (Symbol Semicolon at ∷ w) t → ⊥
no_inside (down bare last final u) = elim u [ ]
no_inside (down bare last (branch e g q o) u) = absurd cc
no_inside (down (star e v ps) m o u) = absurd cc
no_inside (down (guarded_star e v g ps) m o u) = absurd cc
no_inside (down (split e ps) m o u) = absurd cc
no_inside (down (spread_split e ps) m o u) = absurd cc
no_inside (down (placed e ps) m o u) = absurd cc

pub no_pattern : {ls : List Level} {l : Level} {at : ℕ} {so_far : List Variant} {w : List Terminal} {t : Read} (x : Terminal) → ((o : ℕ) → x ≡ Symbol OpenBrace o → ⊥) →
    NextPattern ls l at so_far (x ∷ w) t → ⊥
no_pattern x n (next_pattern (variant {at = o} v) a) = n o refl

pub no_exit : {ls : List Level} {l : Level} {r : Repeated} {w : List Terminal} {t : Read} (x : Terminal) → ((o : ℕ) → x ≡ Symbol OpenBrace o → ⊥) →
    NextExit ls l r (x ∷ w) t → ⊥
no_exit x n (next_exit (variant {at = o} v) a) = n o refl

pub no_guard : {ls : List Level} {l : Level} {r : Repeated} {v : Variant} {w : List Terminal} {t : Read} (x : Terminal) → ((o : ℕ) → x ≡ Symbol OpenParen o → ⊥) →
    NextGuard ls l r v (x ∷ w) t → ⊥
no_guard x n (next_guard {at} g d) = n at refl

pub no_tag : {ls : List Level} {l : Level} {r : Repeated} {w : List Terminal} {t : Read} (x : Terminal) → ((i : Ident) → x ≡ Tag i → ⊥) → ((s : SomeSymbol) (at : ℕ) → x ≡ Symbol s at → ⊥) →
    NextTag ls l r (x ∷ w) t → ⊥
no_tag x n m (next_tag {tag = i} d) = n i refl
no_tag x n m (next_mark {at} d) = m At at refl

pub no_mark : {ls : List Level} {l : Level} {r : Repeated} {w : List Terminal} {t : Read} {at : ℕ} (s : SomeSymbol) → (s ≡ At → ⊥) → NextTag ls l r (Symbol s at ∷ w) t → ⊥
no_mark s n (next_mark d) = n refl

pub no_spread_tag : {ls : List Level} {l : Level} {r : Repeated} {w : List Terminal} {t : Read} (x : Terminal) → ((i : Ident) → x ≡ Tag i → ⊥) → NextSpreadTag ls l r (x ∷ w) t → ⊥
no_spread_tag x n (next_spread_tag {tag = i} d) = n i refl

pub no_node : {ls : List Level} {l : Level} {p : Placing} {w : List Terminal} {t : Read} (x : Terminal) → ((node at : ℕ) → x ≡ Number (pos node) at → ⊥) → NextNode ls l p (x ∷ w) t → ⊥
no_node x n (next_node {at} {node} d) = n node at refl

pub no_after : {ls : List Level} {l : Level} {at : ℕ} {so_far : List Variant} {w : List Terminal} {t : Read} (x : Terminal) →
    ((o : ℕ) → x ≡ Symbol Comma o → ⊥) → ((o : ℕ) → x ≡ Symbol CloseSync o → ⊥) → AfterPattern ls l at so_far (x ∷ w) t → ⊥
no_after x n m (after_pattern (last_pattern {at = o}) d) = m o refl
no_after x n m (after_pattern (more_patterns {at = o} v k) d) = n o refl
