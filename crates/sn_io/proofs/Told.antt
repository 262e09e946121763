-- What a sink holds after several appends.
use Rattle.std.proofs.Common.{◌≡◌, ℕ, ◌+◌, ◌-◌, List, [], ◌++◌, take, drop, length, Option, None, Some, refl, ap, sym, ◌∙◌, append_assoc, append-nil, take-add}
use Rattle.std.proofs.lemmas.List.{take_rest}
use Rattle.sn_io.specs.Told.{appended, AppendsPrefix}

-- two appends are one
pub appended_twice : (held : Option (List ℕ)) (xs ys : List ℕ) → appended (appended held xs) ys ≡ appended held (xs ++ ys)
appended_twice None xs ys = refl
appended_twice (Some bytes) xs ys = ap (λ (all : List ℕ). Some all) (append_assoc bytes xs ys)

-- to append nothing changes nothing
pub appended_none : (held : Option (List ℕ)) → appended held [] ≡ held
appended_none None = refl
appended_none (Some bytes) = ap (λ (all : List ℕ). Some all) (append-nil bytes)

-- a prefix after whole bytes is a prefix of both
pub prefix_after : (before middle now : Option (List ℕ)) (xs ys : List ℕ) → middle ≡ appended before xs → AppendsPrefix middle now ys → AppendsPrefix before now (xs ++ ys)
prefix_after before middle now xs ys is part = record {
  piece = xs ++ part.piece;
  rest = part.rest;
  whole = append_assoc xs part.piece part.rest ∙ ap (λ all. xs ++ all) part.whole;
  held = part.held ∙ ap (λ held. appended held part.piece) is ∙ appended_twice before xs part.piece;
}

-- a prefix of some bytes is a prefix of those bytes and more
pub prefix_before : (before now : Option (List ℕ)) (xs ys : List ℕ) → AppendsPrefix before now xs → AppendsPrefix before now (xs ++ ys)
prefix_before before now xs ys part = record {
  piece = part.piece;
  rest = part.rest ++ ys;
  whole = sym (append_assoc part.piece part.rest ys) ∙ ap (λ all. all ++ ys) part.whole;
  held = part.held;
}

-- nothing at all is a prefix of any bytes
pub prefix_none : (held : Option (List ℕ)) (bs : List ℕ) → AppendsPrefix held held bs
prefix_none held bs = record {
  piece = [];
  rest = bs;
  whole = refl;
  held = sym (appended_none held);
}

-- whole bytes are a prefix of themselves
pub prefix_whole : (before now : Option (List ℕ)) (bs : List ℕ) → now ≡ appended before bs → AppendsPrefix before now bs
prefix_whole before now bs is = record {
  piece = bs;
  rest = [];
  whole = append-nil bs;
  held = is;
}

-- where the first i bytes were held, and then n of the rest
pub appended_further : (first before now : Option (List ℕ)) (bs : List ℕ) (i n : ℕ) → before ≡ appended first (take i bs) → now ≡ appended before (take n (take (length bs - i) (drop i bs))) → now ≡ appended first (take (i + n) bs)
appended_further first before now bs i n was is =
    is ∙ ap (λ rest. appended before (take n rest)) (take_rest bs i)
    ∙ ap (λ held. appended held (take n (drop i bs))) was
    ∙ appended_twice first (take i bs) (take n (drop i bs))
    ∙ ap (appended first) (sym (take-add i n bs))
