-- Programs read back.
use Rattle.std.proofs.Common.{◌≡◌, ℕ, ◌++◌, List, [], ◌∷◌, map, append-nil, codes, refl, sym, ap, ◌∙◌, subst, arith}
use Rattle.std.specs.List.{flat_map}
use Rattle.std.proofs.lemmas.Grind.{flat_map-append}
use Rattle.std.proofs.lemmas.List.{map-append}
use Rattle.std.proofs.lemmas.Str.{chars_from_encodes}
use Rattle.sn_ast.specs.Declarations.{Declarations, no_more, declaration}
use Rattle.sn_ast.specs.Measures.{measured}
use Rattle.sn_ast.specs.Rows.{append}
use Rattle.sn_ast.specs.declared.declaration.Decl.{Decl}
use Rattle.sn_ast.specs.declared.declaration.Program.{Program}
use Rattle.sn_ast.specs.declared.measure.Measured.{Measured}
use Rattle.sn_ast.specs.declared.terminal.Terminal.{Terminal}
use Rattle.sn_lexer.specs.Answer.{LexesAs}
use Rattle.sn_lexer.specs.Lexes.Lexes.{end}
use Rattle.sn_lexer.specs.Lexes.{Lexes}
use Rattle.sn_lexer.specs.declared.token.Token.{Token}
use Rattle.sn_parser.specs.Answer.{AreWithin, program_of, IsProgram, Spell}
use Rattle.sn_print.specs.Declarations.{decl_text}
use Rattle.sn_roundtrip.specs.ReadsBack.{ReadsBack}
use Rattle.sn_roundtrip.specs.Unplaced.{unplaced_decl}
use Rattle.sn_roundtrip.proofs.Declarations.{GoodDecl, good_declaration}
use Rattle.sn_roundtrip.proofs.Joins.{before}
use Rattle.sn_roundtrip.proofs.Rereads.{reread, Shows, Like}
use Rattle.sn_roundtrip.proofs.Singles.{gap}
use Rattle.sn_roundtrip.proofs.Spans.{Calm, Free}
use Rattle.sn_roundtrip.proofs.Telling.{told_text, are_words}
use Rattle.sn_roundtrip.specs.Words.{AreWords}

-- outermost declarations, each with the place of its name
abbrev Decls : Type 0
Decls = List (ℕ × Measured Decl)

abbrev values : Decls → List Decl
values ds = map (λ d. d.1.value) ds

abbrev AreLike : Decls → Decls → Type 0
AreLike [] [] = Unit {0}
AreLike (d ∷ ds) (e ∷ es) = Like unplaced_decl 0 d.1 e.1 × AreLike ds es
AreLike ds es = ⊥

like_last : (ds es : Decls) (d e : ℕ × Measured Decl) → AreLike ds es → Like unplaced_decl 0 d.1 e.1 → AreLike (ds ++ (d ∷ [])) (es ++ (e ∷ []))
like_last [] [] d e l m = (m, tt)
like_last [] (f ∷ es) d e l m = absurd l
like_last (c ∷ ds) [] d e l m = absurd l
like_last (c ∷ ds) (f ∷ es) d e l m = (l.0, like_last ds es d e l.1 m)

-- within the limits, since no more parentheses are open than a declaration is high
like_within : (ds es : Decls) → AreLike ds es → AreWithin ds → AreWithin es
like_within [] [] l w = tt
like_within [] (e ∷ es) l w = absurd l
like_within (d ∷ ds) [] l w = absurd l
like_within (d ∷ ds) (e ∷ es) l w = ((omega (arith, l.0.height, w.0.0), omega (arith, l.0.room, w.0.0)), like_within ds es l.1 w.1)

like_same : (ds es : Decls) → AreLike ds es → map unplaced_decl (values es) ≡ map unplaced_decl (values ds)
like_same [] [] l = refl
like_same [] (e ∷ es) l = absurd l
like_same (d ∷ ds) [] l = absurd l
like_same (d ∷ ds) (e ∷ es) l = λ i. l.0.value i ∷ like_same ds es l.1 i

-- what goes on after the declarations so far goes on from before them
abbrev LinesOf : List Terminal → Decls → List Terminal → Type 0
LinesOf ts so_far us = (all : Decls) → Declarations measured so_far us all → Declarations measured [] ts all

abbrev line : Decl → List ℕ
line d = decl_text d ++ codes "\n"

abbrev GoodLines : Decls → Type 0
GoodLines ds = Shows Calm Free (flat_map line (values ds)) LinesOf (AreLike ds)

first_line : (at : ℕ) (d : Measured Decl) → GoodDecl d → GoodLines ((at, d) ∷ [])
first_line at d x = record {
  text = x.text ++ codes "\n";
  is = append-nil (line d.value) ∙ ap (λ t. t ++ codes "\n") x.is;
  reads = record {
    span = before x.reads.span (gap 10 refl) refl;
    rereads = λ p. reread ((x.reads.rereads p).again ∷ []) (λ us all k. declaration ((x.reads.rereads p).reads us) k) ((x.reads.rereads p).good, tt);
  };
}

next_line : (ds : Decls) (at : ℕ) (d : Measured Decl) → GoodLines ds → GoodDecl d → GoodLines (append ds (at, d))
next_line ds at d r x = record {
  text = r.text ++ (x.text ++ codes "\n");
  is = ap (flat_map line) (map-append (λ d. d.1.value) ds ((at, d) ∷ [])) ∙ flat_map-append line (values ds) (d.value ∷ []) ∙ (λ i. r.is i ++ (append-nil (line d.value) ∙ ap (λ t. t ++ codes "\n") x.is) i);
  reads = record {
    span = before r.reads.span (before x.reads.span (gap 10 refl) refl) refl;
    rereads = λ p. reread (append (r.reads.rereads p).again (x.reads.rereads _).again) (λ us all k. (r.reads.rereads p).reads _ all (declaration ((x.reads.rereads _).reads us) k))
        (like_last ds (r.reads.rereads p).again (at, d) _ (r.reads.rereads p).good (x.reads.rereads _).good);
  };
}

good_more_lines : {so_far all : Decls} {ts : List Terminal} → Declarations measured so_far ts all → GoodLines so_far → AreWords ts → GoodLines all
good_more_lines no_more r w = r
good_more_lines (declaration {at = at} {d = d} {so_far = so_far} a k) r w = let x = good_declaration a w in good_more_lines k (next_line so_far at d r x.0) x.1

-- no declarations, or lines of them
data SomeLines : Decls → Type 0 where
  no_lines : SomeLines []
  some_lines : {ds : Decls} → GoodLines ds → SomeLines ds

good_lines : {all : Decls} {ts : List Terminal} → Declarations measured [] ts all → AreWords ts → SomeLines all
good_lines no_more w = no_lines
good_lines (declaration {at = at} {d = d} a k) w = let x = good_declaration a w in some_lines (good_more_lines k (first_line at d x.0) x.1)

nothing_lexes : LexesAs [] []
nothing_lexes = record { utf8 = ([], (refl, refl)); lexes = subst (λ cs. Lexes 0 cs []) (chars_from_encodes [] [] ([], (refl, refl)) refl) end }

reads_back_by : {ds : Decls} → SomeLines ds → AreWithin ds → ReadsBack (program_of ds)
reads_back_by no_lines within = record {
  tokens = [];
  lexed = nothing_lexes;
  again = program_of [];
  spelled = record { said = []; says = tt; spelled = record { decls = []; spelled = no_more; within = tt; is = refl } };
  same = refl;
}
reads_back_by {ds} (some_lines r) within =
    let told = told_text r.reads.span tt in
    let read = r.reads.rereads 0 in
    let program : IsProgram (r.reads.span.said 0 []) (program_of read.again) = record { decls = read.again; spelled = read.reads [] _ no_more; within = like_within ds read.again read.good within; is = refl } in
    record {
      tokens = told.0;
      lexed = subst (λ t. LexesAs t told.0) (sym r.is) told.1;
      again = program_of read.again;
      spelled = subst (λ t. Spell t told.0 (program_of read.again)) (sym r.is) (record { said = r.reads.span.said 0 []; says = told.2; spelled = program });
      same = ap (λ ds. record { decls = ds }) (like_same ds read.again read.good);
    }

-- any well-formed terminals serve, and so do those of a source
pub words_read_back : (said : List Terminal) (program : Program) → AreWords said → IsProgram said program → ReadsBack program
words_read_back said program words spelled = subst ReadsBack (sym spelled.is) (reads_back_by (good_lines spelled.spelled words) spelled.within)

pub source_reads_back : (source : List ℕ) (tokens : List Token) (program : Program) → LexesAs source tokens → Spell source tokens program → ReadsBack program
source_reads_back source tokens program lexed spell = words_read_back spell.said program (are_words source tokens spell.said lexed spell.says) spell.spelled
