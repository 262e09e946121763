-- What an expression over tags is worth.
use Rattle.std.specs.Prelude.{ℕ, ℤ, pos, Bool, true, not, ◌&&◌, if◌then◌else◌, Result, Ok, Err}
use Rattle.sn_tagexpr.specs.declared.expr.TagExpr.{TagExpr, fold-TagExpr}
use Rattle.sn_tagexpr.specs.declared.expr.TagExpr.TheOpen.{TagExpr-F}
use Rattle.sn_tagexpr.specs.declared.fault.ExprFault.{ExprFault}
use Rattle.sn_tagexpr.specs.Operators.{operated, negated, is_zero, truth}

-- one level: whether each tag that it names passes the test
abbrev pub every_tag_step : (ℕ → Bool) → TagExpr-F Bool → Bool
every_tag_step test (TagExpr-F.Number n) = true
every_tag_step test (TagExpr-F.Tag id) = test id
every_tag_step test (TagExpr-F.Neg e) = e
every_tag_step test (TagExpr-F.Not e) = e
every_tag_step test (TagExpr-F.Op op e f) = e && f
every_tag_step test (TagExpr-F.And e f) = e && f
every_tag_step test (TagExpr-F.Or e f) = e && f
every_tag_step test (TagExpr-F.Cond c e f) = c && (e && f)

-- each tag that the expression names passes the test
abbrev pub every_tag : (ℕ → Bool) → TagExpr → Bool
every_tag test = fold-TagExpr Bool (every_tag_step test)

-- the fault, or what comes of the value
abbrev pub onward : Result ℤ ExprFault → (ℤ → Result ℤ ExprFault) → Result ℤ ExprFault
onward (Ok n) next = next n
onward (Err fault) next = Err fault

-- one level, with what each part is worth in its place: from left to right, and only the parts that are needed
abbrev pub worth_step : (ℕ → ℤ) → TagExpr-F (Result ℤ ExprFault) → Result ℤ ExprFault
worth_step tags (TagExpr-F.Number n) = Ok n
worth_step tags (TagExpr-F.Tag id) = Ok (tags id)
worth_step tags (TagExpr-F.Neg e) = onward e negated
worth_step tags (TagExpr-F.Not e) = onward e (λ n. Ok (truth (is_zero n)))
worth_step tags (TagExpr-F.Op op e f) = onward e (λ m. onward f (operated op m))
worth_step tags (TagExpr-F.And e f) = onward e (λ m. if is_zero m then Ok (pos 0) else onward f (λ n. Ok (truth (not (is_zero n)))))
worth_step tags (TagExpr-F.Or e f) = onward e (λ m. if is_zero m then onward f (λ n. Ok (truth (not (is_zero n)))) else Ok (pos 1))
worth_step tags (TagExpr-F.Cond c e f) = onward c (λ n. if is_zero n then f else e)

-- the value of an expression over the numbers of tags, or its first fault in the order of evaluation
abbrev pub worth : (ℕ → ℤ) → TagExpr → Result ℤ ExprFault
worth tags = fold-TagExpr (Result ℤ ExprFault) (worth_step tags)
