-- Labels, variants, tuples, types and signatures read back.
use Rattle.std.proofs.Common.{◌≡◌, ℕ, ◌+◌, ◌++◌, List, [], ◌∷◌, map, codes, Some, refl, sym, ap, ◌∙◌}
use Rattle.std.proofs.lemmas.List.{map-append}
use Rattle.sn_ast.specs.Labels.{MoreLabels, last_label, more_labels, Labels, no_labels, labels, IsVariant, variant, IsTuple, tuple, Part, set, named, MoreParts, last_part, more_parts, Types, types, IsSig, arrow, signature}
use Rattle.sn_ast.specs.Rows.{append}
use Rattle.sn_ast.specs.Terminals.{label_of}
use Rattle.sn_ast.specs.declared.label.LabelAt.{LabelAt}
use Rattle.sn_ast.specs.declared.label.Sig.{Sig}
use Rattle.sn_ast.specs.declared.label.Sig.TheVariants as sig_form
use Rattle.sn_ast.specs.declared.label.Tuple.{Tuple}
use Rattle.sn_ast.specs.declared.label.TypePart.{TypePart}
use Rattle.sn_ast.specs.declared.label.TypePart.TheVariants.{Set, Named}
use Rattle.sn_ast.specs.declared.label.Variant.{Variant}
use Rattle.sn_ast.specs.declared.terminal.Bracket.{Bracket}
use Rattle.sn_ast.specs.declared.terminal.Bracket.TheVariants.{Paren, Brace}
use Rattle.sn_ast.specs.declared.terminal.Symbol.TheVariants as symbol
use Rattle.sn_ast.specs.declared.terminal.Terminal.{Terminal}
use Rattle.sn_ast.specs.declared.terminal.Terminal.TheVariants as terminal
use Rattle.sn_print.specs.Labels.{label_text, variant_text, tuple_text, part_text, sig_text}
use Rattle.sn_print.specs.Words.{in_angles}
use Rattle.sn_roundtrip.specs.Unplaced.{unplaced_label, unplaced_variant, unplaced_tuple, unplaced_part, unplaced_sig}
use Rattle.sn_roundtrip.proofs.Joins.{before, calmly, wholly}
use Rattle.sn_roundtrip.proofs.Rereads.{reread, Shows, same_two}
use Rattle.sn_roundtrip.proofs.Rows.{GoodRow, row_begins, row_goes_on, calm_head}
use Rattle.sn_roundtrip.proofs.Singles.{symbol_span, name_span, tag_span, spaced}
use Rattle.sn_roundtrip.proofs.Spans.{HeadAt, Calm, Free, Whole}
use Rattle.sn_roundtrip.specs.Words.{IsWord, AreWords}

-- what is read again is the same apart from places
abbrev pub Same : {A : Type 0} → (A → A) → A → A → Type 0
Same plain value again = plain again ≡ plain value

abbrev pub SameRow : {A : Type 0} → (A → A) → List A → List A → Type 0
SameRow plain row again = map plain again ≡ map plain row

-- a row with one part more
pub same_more : {A : Type 0} (plain : A → A) (row again_row : List A) (x again : A) → SameRow plain row again_row → Same plain x again → SameRow plain (row ++ (x ∷ [])) (again_row ++ (again ∷ []))
same_more plain row again_row x again r s = map-append plain again_row (again ∷ []) ∙ (λ i. r i ++ (s i ∷ [])) ∙ sym (map-append plain row (x ∷ []))

pub same_first : {A : Type 0} (plain : A → A) (x again : A) → Same plain x again → SameRow plain (x ∷ []) (again ∷ [])
same_first plain x again s = ap (λ y. y ∷ []) s

-- one label
pub data IsLabel : List Terminal → LabelAt → List Terminal → Type 0 where
  one_label : {x : Terminal} {l : LabelAt} {us : List Terminal} → label_of x ≡ Some l → IsLabel (x ∷ us) l us

abbrev pub GoodLabel : LabelAt → Type 0
GoodLabel l = Shows Calm Whole (label_text l) IsLabel (Same unplaced_label l)

some_same : {l m : LabelAt} → Some l ≡ Some m → l ≡ m
some_same e = cc

pub good_label : (x : Terminal) (l : LabelAt) → label_of x ≡ Some l → IsWord x → GoodLabel l
good_label (terminal.Name name) l is w = record {
  text = name.text;
  is = ap label_text (sym (some_same is));
  reads = record { span = name_span w; rereads = λ p. reread _ (λ us. one_label refl) (ap unplaced_label (some_same is)) };
}
good_label (terminal.Tag name) l is w = record {
  text = in_angles name.text;
  is = ap label_text (sym (some_same is));
  reads = record { span = wholly (tag_span w); rereads = λ p. reread _ (λ us. one_label refl) (ap unplaced_label (some_same is)) };
}
good_label (terminal.Number n at) l is w = cc
good_label (terminal.Literal content at) l is w = cc
good_label (terminal.Keyword k at) l is w = cc
good_label (terminal.Symbol s at) l is w = cc

abbrev GoodLabels : Bracket → List LabelAt → Type 0
GoodLabels b row = GoodRow Calm Whole (codes ",") label_text (Labels b) (MoreLabels b) row (SameRow unplaced_label row)

labels_begin : (b : Bracket) (p : ℕ) (l : LabelAt) (ts us : List Terminal) (w : List LabelAt) (vs : List Terminal) → HeadAt p ts → IsLabel ts l us → MoreLabels b (l ∷ []) us w vs → Labels b ts w vs
labels_begin b p l ts us w vs h (one_label is) k = labels is k

labels_go_on : (b : Bracket) (q : ℕ) (row : List LabelAt) (l : LabelAt) (ts us : List Terminal) (w : List LabelAt) (vs : List Terminal) → IsLabel ts l us →
    MoreLabels b (row ++ (l ∷ [])) us w vs → MoreLabels b row (terminal.Symbol symbol.Comma q ∷ ts) w vs
labels_go_on b q row l ts us w vs (one_label is) k = more_labels is k

first_label : (b : Bracket) (l : LabelAt) → GoodLabel l → GoodLabels b (l ∷ [])
first_label b l x = row_begins (codes ",") label_text (Labels b) (MoreLabels b) (λ p l. l ∷ []) (labels_begin b) (λ p. same_first unplaced_label l) calm_head x

next_label : (b : Bracket) (row : List LabelAt) (l : LabelAt) → GoodLabels b row → GoodLabel l → GoodLabels b (row ++ (l ∷ []))
next_label b row l r x = row_goes_on (codes ",") label_text (Labels b) (MoreLabels b) (MoreLabels b) (symbol_span symbol.Comma) refl (λ q. append) (labels_go_on b) (λ q acc y. same_more unplaced_label row acc l y) r x

good_more_labels : (b : Bracket) {row all : List LabelAt} {ts us : List Terminal} → MoreLabels b row ts all us → GoodLabels b row → AreWords ts → GoodLabels b all × AreWords us
good_more_labels b (last_label is) r w = (r, w.1)
good_more_labels b (more_labels {x = x} {l = l} {so_far = row} is d) r w = good_more_labels b d (next_label b row l r (good_label x l is w.1.0)) w.1.1

-- variants
abbrev pub GoodVariant : Variant → Type 0
GoodVariant v = Shows Calm Free (variant_text v) IsVariant (Same unplaced_variant v)

variant_of : (at : ℕ) (all : List LabelAt) → GoodLabels Brace all → GoodVariant (record { labels = all; at = at })
variant_of at all r = record {
  text = codes "{" ++ (r.shows.text ++ codes "}");
  is = ap (λ t. codes "{" ++ (t ++ codes "}")) r.shows.is;
  reads = record {
    span = calmly refl (before (symbol_span symbol.OpenBrace) (before r.shows.reads.span (symbol_span symbol.CloseBrace) refl) refl);
    rereads = λ p. reread (record { labels = (r.shows.reads.rereads _).again; at = p }) (λ us. variant ((r.shows.reads.rereads _).reads _ _ us (last_label refl)))
        (ap (λ ls. record { labels = ls; at = 0 }) (r.shows.reads.rereads _).good);
  };
}

empty_variant : (at : ℕ) → GoodVariant (record { labels = []; at = at })
empty_variant at = record {
  text = codes "{}";
  is = refl;
  reads = record {
    span = calmly refl (before (symbol_span symbol.OpenBrace) (symbol_span symbol.CloseBrace) refl);
    rereads = λ p. reread (record { labels = []; at = p }) (λ us. variant (no_labels refl)) refl;
  };
}

pub good_variant : {v : Variant} {ts us : List Terminal} → IsVariant ts v us → AreWords ts → GoodVariant v × AreWords us
good_variant (variant {at} (no_labels is)) w = (empty_variant at, w.1.1)
good_variant (variant {at} {all} (labels {x = x} {l = l} is d)) w = let r = good_more_labels Brace d (first_label Brace l (good_label x l is w.1.0)) w.1.1 in (variant_of at all r.0, r.1)

-- tuples
abbrev pub GoodTuple : Tuple → Type 0
GoodTuple t = Shows Calm Free (tuple_text t) IsTuple (Same unplaced_tuple t)

tuple_of : (at : ℕ) (all : List LabelAt) → GoodLabels Paren all → GoodTuple (record { labels = all; at = at })
tuple_of at all r = record {
  text = codes "(" ++ (r.shows.text ++ codes ")");
  is = ap (λ t. codes "(" ++ (t ++ codes ")")) r.shows.is;
  reads = record {
    span = calmly refl (before (symbol_span symbol.OpenParen) (before r.shows.reads.span (symbol_span symbol.CloseParen) refl) refl);
    rereads = λ p. reread (record { labels = (r.shows.reads.rereads _).again; at = p }) (λ us. tuple ((r.shows.reads.rereads _).reads _ _ us (last_label refl)))
        (ap (λ ls. record { labels = ls; at = 0 }) (r.shows.reads.rereads _).good);
  };
}

empty_tuple : (at : ℕ) → GoodTuple (record { labels = []; at = at })
empty_tuple at = record {
  text = codes "()";
  is = refl;
  reads = record {
    span = calmly refl (before (symbol_span symbol.OpenParen) (symbol_span symbol.CloseParen) refl);
    rereads = λ p. reread (record { labels = []; at = p }) (λ us. tuple (no_labels refl)) refl;
  };
}

pub good_tuple : {t : Tuple} {ts us : List Terminal} → IsTuple ts t us → AreWords ts → GoodTuple t × AreWords us
good_tuple (tuple {at} (no_labels is)) w = (empty_tuple at, w.1.1)
good_tuple (tuple {at} {all} (labels {x = x} {l = l} is d)) w = let r = good_more_labels Paren d (first_label Paren l (good_label x l is w.1.0)) w.1.1 in (tuple_of at all r.0, r.1)

-- types
abbrev GoodPart : TypePart → Type 0
GoodPart p = Shows Calm Whole (part_text p) Part (Same unplaced_part p)

good_part : {p : TypePart} {ts us : List Terminal} → Part ts p us → AreWords ts → GoodPart p × AreWords us
good_part (set {v} d) w =
    let x = good_variant d w in (
      record {
        text = x.0.text;
        is = x.0.is;
        reads = record { span = wholly x.0.reads.span; rereads = λ p. reread _ (λ us. set ((x.0.reads.rereads p).reads us)) (ap Set (x.0.reads.rereads p).good) };
      },
      x.1,
    )
good_part (named {name}) w = (
  record {
    text = name.text;
    is = refl;
    reads = record { span = name_span w.0; rereads = λ p. reread (Named (record { text = name.text; at = p })) (λ us. named) refl };
  },
  w.1,
)

abbrev pub GoodTypes : List TypePart → Type 0
GoodTypes row = GoodRow Calm Whole (codes " | ") part_text Types MoreParts row (SameRow unplaced_part row)

types_begin : (at : ℕ) (p : TypePart) (ts us : List Terminal) (w : List TypePart) (vs : List Terminal) → HeadAt at ts → Part ts p us → MoreParts (p ∷ []) us w vs → Types ts w vs
types_begin at p ts us w vs h d k = types d k

types_go_on : (q : ℕ) (row : List TypePart) (p : TypePart) (ts us : List Terminal) (w : List TypePart) (vs : List Terminal) → Part ts p us →
    MoreParts (row ++ (p ∷ [])) us w vs → MoreParts row (terminal.Symbol symbol.Bar (q + 1) ∷ ts) w vs
types_go_on q row p ts us w vs d k = more_parts d k

first_part : (p : TypePart) → GoodPart p → GoodTypes (p ∷ [])
first_part p x = row_begins (codes " | ") part_text Types MoreParts (λ at p. p ∷ []) types_begin (λ at. same_first unplaced_part p) calm_head x

next_part : (row : List TypePart) (p : TypePart) → GoodTypes row → GoodPart p → GoodTypes (row ++ (p ∷ []))
next_part row p r x = row_goes_on (codes " | ") part_text Types MoreParts MoreParts (spaced symbol.Bar) refl (λ q. append) types_go_on (λ q acc y. same_more unplaced_part row acc p y) r x

good_more_parts : {row all : List TypePart} {ts us : List Terminal} → MoreParts row ts all us → GoodTypes row → AreWords ts → GoodTypes all × AreWords us
good_more_parts last_part r w = (r, w)
good_more_parts (more_parts {p = p} {so_far = row} a d) r w = let x = good_part a w.1 in good_more_parts d (next_part row p r x.0) x.1

pub good_types : {all : List TypePart} {ts us : List Terminal} → Types ts all us → AreWords ts → GoodTypes all × AreWords us
good_types (types {p = p} a d) w = let x = good_part a w in good_more_parts d (first_part p x.0) x.1

-- signatures
abbrev pub GoodSig : Sig → Type 0
GoodSig s = Shows Calm Whole (sig_text s) IsSig (Same unplaced_sig s)

arrow_of : (input output : List TypePart) → GoodTypes input → GoodTypes output → GoodSig (sig_form.Arrow input output)
arrow_of input output x y = record {
  text = x.shows.text ++ (codes " -> " ++ y.shows.text);
  is = λ i. x.shows.is i ++ (codes " -> " ++ y.shows.is i);
  reads = record {
    span = before x.shows.reads.span (before (spaced symbol.Arrow) y.shows.reads.span refl) refl;
    rereads = λ p. reread (sig_form.Arrow (x.shows.reads.rereads p).again (y.shows.reads.rereads _).again)
        (λ us. arrow ((x.shows.reads.rereads p).reads _ _ _ last_part) ((y.shows.reads.rereads _).reads us _ us last_part))
        (same_two sig_form.Arrow (x.shows.reads.rereads p).good (y.shows.reads.rereads _).good);
  };
}

pub good_sig : {s : Sig} {ts us : List Terminal} → IsSig ts s us → AreWords ts → GoodSig s × AreWords us
good_sig (arrow {input = input} {output = output} a b) w = let x = good_types a w in let y = good_types b x.1.1 in (arrow_of input output x.0 y.0, y.1)
good_sig (signature {name}) w = (
  record {
    text = name.text;
    is = refl;
    reads = record { span = name_span w.0; rereads = λ p. reread (sig_form.Named (record { text = name.text; at = p })) (λ us. signature) refl };
  },
  w.1,
)
