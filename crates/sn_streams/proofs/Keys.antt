-- The test of keys tells whether they are equal.
use Rattle.std.proofs.Common.{◌≡◌, true, refl, ap, arith}
use Rattle.std.proofs.lemmas.Bool.Decides.{Decides-int_eq}
use Rattle.sn_streams.specs.Keys.{Key, Own, Branch, Inside, Value, key_eq}

pub key_eq-refl : (k : Key) → key_eq k k ≡ true
key_eq-refl Own = refl
key_eq-refl (Branch i) = grind arith
key_eq-refl Inside = refl
key_eq-refl (Value a) = grind (arith, Decides-int_eq a a)

pub same_key : (j k : Key) → key_eq j k ≡ true → j ≡ k
same_key Own Own e = refl
same_key (Branch i) (Branch j) e = ap Branch (grind (arith, e))
same_key Inside Inside e = refl
same_key (Value a) (Value b) e = ap Value (grind (arith, e, Decides-int_eq a b))
same_key _ _ e = cc
