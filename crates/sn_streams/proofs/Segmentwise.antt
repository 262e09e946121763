-- Shuffles of streams, by the places of their segments.
use Rattle.std.proofs.Common.{◌≡◌, ℕ, zero, suc, [], ◌∷◌, get_or, length, pred, refl, sym, ap}
use Rattle.sn_streams.specs.Keys.{Key}
use Rattle.sn_streams.specs.Segments.{Segments, first_segment, other_segments}
use Rattle.sn_streams.specs.Shuffles.{ShuffleByKey, SegmentShuffles}
use Rattle.sn_streams.proofs.Shuffles.{same_lists}

module _ {A : Type 0} where
  pub at_each_place : (yss : Segments A) (f : Key → Segments A) → SegmentShuffles yss f → (i : ℕ) → ShuffleByKey (get_or yss i []) (λ k. get_or (f k) i [])
  at_each_place [] f shuffles i = λ k. ap (λ (zss : Segments A). get_or zss i []) (shuffles k)
  at_each_place (ys ∷ yss) f (firsts, others, are, shuffle, shuffles) zero =
      same_lists ys firsts (λ k. get_or (f k) 0 []) (λ k. sym (ap (λ (zss : Segments A). get_or zss 0 []) (are k))) shuffle
  at_each_place (ys ∷ yss) f (firsts, others, are, shuffle, shuffles) (suc i) =
      same_lists (get_or yss i []) (λ k. get_or (others k) i []) (λ k. get_or (f k) (suc i) [])
      (λ k. sym (ap (λ (zss : Segments A). get_or zss (suc i) []) (are k)))
      (at_each_place yss others shuffles i)

  no_segment : (zss : Segments A) → length zss ≡ 0 → zss ≡ []
  no_segment [] e = refl
  no_segment (zs ∷ zss) e = cc

  two_parts : (n : ℕ) (zss : Segments A) → length zss ≡ suc n → zss ≡ first_segment zss ∷ other_segments zss
  two_parts n [] e = cc
  two_parts n (zs ∷ zss) e = refl

  first_is : (zss : Segments A) → get_or zss 0 [] ≡ first_segment zss
  first_is [] = refl
  first_is (zs ∷ zss) = refl

  others_are : (i : ℕ) (zss : Segments A) → get_or zss (suc i) [] ≡ get_or (other_segments zss) i []
  others_are i [] = refl
  others_are i (zs ∷ zss) = refl

  length-others : (n : ℕ) (zss : Segments A) → length zss ≡ suc n → length (other_segments zss) ≡ n
  length-others n [] e = cc
  length-others n (zs ∷ zss) e = ap pred e

  pub from_each_place : (yss : Segments A) (f : Key → Segments A) → ((k : Key) → length (f k) ≡ length yss)
      → ((i : ℕ) → ShuffleByKey (get_or yss i []) (λ k. get_or (f k) i [])) → SegmentShuffles yss f
  from_each_place [] f lengths each = λ k. no_segment (f k) (lengths k)
  from_each_place (ys ∷ yss) f lengths each = (
    (λ k. first_segment (f k)),
    (λ k. other_segments (f k)),
    (λ k. two_parts (length yss) (f k) (lengths k)),
    same_lists ys (λ k. get_or (f k) 0 []) (λ k. first_segment (f k)) (λ k. first_is (f k)) (each 0),
    from_each_place yss (λ k. other_segments (f k)) (λ k. length-others (length yss) (f k) (lengths k))
        (λ i. same_lists (get_or yss i []) (λ k. get_or (f k) (suc i) []) (λ k. get_or (other_segments (f k)) i []) (λ k. others_are i (f k)) (each (suc i))),
  )
