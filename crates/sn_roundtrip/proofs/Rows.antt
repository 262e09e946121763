-- Parts in a row read back, one after another.
use Rattle.std.proofs.Common.{◌≡◌, ◌≢◌, ℕ, true, List, [], ◌∷◌, ◌++◌, map, append_assoc, append-nil, refl, sym, ap, ◌∙◌}
use Rattle.std.specs.List.{flat_map}
use Rattle.std.proofs.lemmas.Grind.{flat_map-append}
use Rattle.std.proofs.lemmas.List.{map-append}
use Rattle.sn_ast.specs.declared.terminal.Terminal.{Terminal}
use Rattle.sn_print.specs.Words.{joined}
use Rattle.sn_roundtrip.proofs.Joins.{before}
use Rattle.sn_roundtrip.proofs.Rereads.{reread, Shows}
use Rattle.sn_roundtrip.proofs.Spans.{HeadAt, Heads, Begin, Calm, Mild, Exactly, End, Free, Span, adjoin}

-- what goes on after the parts so far goes on from before them
abbrev pub RowOf : {W Acc : Type 0} → (List Terminal → W → List Terminal → Type 0) → (Acc → List Terminal → W → List Terminal → Type 0) → List Terminal → Acc → List Terminal → Type 0
RowOf {W} All More ts acc us = (w : W) (vs : List Terminal) → More acc us w vs → All ts w vs

joined_more : (separator : List ℕ) (texts : List (List ℕ)) (text : List ℕ) → texts ≢ [] → joined separator (texts ++ (text ∷ [])) ≡ joined separator texts ++ (separator ++ text)
joined_more separator [] text filled = absurd (filled refl)
joined_more separator (first ∷ texts) text filled =
    let lead : List ℕ → List ℕ = λ next. separator ++ next in
    ap (λ t. first ++ t) (flat_map-append lead texts (text ∷ []) ∙ ap (λ t. flat_map lead texts ++ t) (append-nil (lead text)))
    ∙ sym (append_assoc first (flat_map lead texts) (separator ++ text))

pub not_nil : {A : Type 0} (xs : List A) (x : A) → xs ++ (x ∷ []) ≢ []
not_nil [] x e = cc
not_nil (y ∷ xs) x e = cc

pub map_filled : {A B : Type 0} (f : A → B) (xs : List A) → xs ≢ [] → map f xs ≢ []
map_filled f [] filled e = filled refl
map_filled f (x ∷ xs) filled e = cc

-- A row of some parts, with a separator between any two.
pub record GoodRow (b : Begin) (e : End) {X W Acc : Type 0} (separator : List ℕ) (show : X → List ℕ) (All : List Terminal → W → List Terminal → Type 0)
    (More : Acc → List Terminal → W → List Terminal → Type 0) (row : List X) (Good : Acc → Type 0) : Type 0 where
  pub filled : row ≢ []
  pub shows : Shows b e (joined separator (map show row)) (RowOf All More) Good

-- the first part
pub row_begins : {b : Begin} {e : End} {X Y W Acc : Type 0} (separator : List ℕ) (show : X → List ℕ) (All : List Terminal → W → List Terminal → Type 0)
    (More : Acc → List Terminal → W → List Terminal → Type 0) {R : List Terminal → Y → List Terminal → Type 0} {x : X} {GoodX : Y → Type 0} {Good : Acc → Type 0}
    (begin : ℕ → Y → Acc) →
    ((p : ℕ) (y : Y) (ts us : List Terminal) (w : W) (vs : List Terminal) → HeadAt p ts → R ts y us → More (begin p y) us w vs → All ts w vs) →
    ((p : ℕ) (y : Y) → GoodX y → Good (begin p y)) → ((said : ℕ → List Terminal → List Terminal) → Heads b said → (p : ℕ) (us : List Terminal) → HeadAt p (said p us)) →
    Shows b e (show x) R GoodX → GoodRow b e separator show All More (x ∷ []) Good
row_begins separator show All More {x = x} begin start good headed s = record {
  filled = λ same. cc;
  shows = record {
    text = s.text;
    is = append-nil (show x) ∙ s.is;
    reads = record {
      span = s.reads.span;
      rereads = λ p. reread (begin p (s.reads.rereads p).again) (λ us w vs k. start _ _ _ _ w vs (headed s.reads.span.said s.reads.span.heads p us) ((s.reads.rereads p).reads us) k) (good p _ (s.reads.rereads p).good);
    };
  };
}

pub calm_head : (said : ℕ → List Terminal → List Terminal) → Heads Calm said → (p : ℕ) (us : List Terminal) → HeadAt p (said p us)
calm_head said h = h

pub mild_head : (said : ℕ → List Terminal → List Terminal) → Heads Mild said → (p : ℕ) (us : List Terminal) → HeadAt p (said p us)
mild_head said h = h

-- one more part; the separator stands at a place
pub row_goes_on : {b c : Begin} {e : End} {X Y W SoFar Acc : Type 0} (separator : List ℕ) (show : X → List ℕ) (All : List Terminal → W → List Terminal → Type 0)
    (Before : SoFar → List Terminal → W → List Terminal → Type 0) (More : Acc → List Terminal → W → List Terminal → Type 0) {R : List Terminal → Y → List Terminal → Type 0}
    {d : ℕ} {row : List X} {x : X} {GoodX : Y → Type 0} {GoodSoFar : SoFar → Type 0} {Good : Acc → Type 0} (between : Span (Exactly d) Free separator) → adjoin e (Exactly d) ≡ true →
    (next : ℕ → SoFar → Y → Acc) →
    ((q : ℕ) (so_far : SoFar) (y : Y) (ts us : List Terminal) (w : W) (vs : List Terminal) → R ts y us → More (next q so_far y) us w vs → Before so_far (between.said q ts) w vs) →
    ((q : ℕ) (so_far : SoFar) (y : Y) → GoodSoFar so_far → GoodX y → Good (next q so_far y)) →
    GoodRow b e separator show All Before row GoodSoFar → Shows c e (show x) R GoodX → GoodRow b e separator show All More (row ++ (x ∷ [])) Good
row_goes_on separator show All Before More {row = row} {x = x} between fits next step good r s = record {
  filled = not_nil row x;
  shows = record {
    text = r.shows.text ++ (separator ++ s.text);
    is = ap (joined separator) (map-append show row (x ∷ [])) ∙ joined_more separator (map show row) (show x) (map_filled show row r.filled) ∙ (λ i. r.shows.is i ++ (separator ++ s.is i));
    reads = record {
      span = before r.shows.reads.span (before between s.reads.span refl) fits;
      rereads = λ p. reread (next _ (r.shows.reads.rereads p).again (s.reads.rereads _).again)
          (λ us w vs k. (r.shows.reads.rereads p).reads _ w vs (step _ _ _ _ _ w vs ((s.reads.rereads _).reads us) k))
          (good _ _ _ (r.shows.reads.rereads p).good (s.reads.rereads _).good);
    };
  };
}
