-- Texts that are cut into pieces from left to right.
use Rattle.std.proofs.Common.{◌≡◌, ℕ, suc, ◌<◌, false, ◌==◌, List, [], ◌∷◌, ◌++◌, length, refl, sym, ap, ◌∙◌, subst, arith, append_assoc, append-nil, inl, inr}
use Rattle.std.proofs.lemmas.Bool.{both_ways, false≢true}
use Rattle.std.proofs.lemmas.List.{length-append}
use Rattle.std.specs.List.{flat_map}
use Rattle.limbo_lexer.specs.declared.token.Kind.{Kind}
use Rattle.limbo_lexer.specs.declared.token.Kind.TheVariants as kinds
use Rattle.limbo_lexer.specs.declared.fault.Cause.{Cause}
use Rattle.limbo_lexer.specs.declared.fault.Cause.TheVariants as cause
use Rattle.limbo_lexer.proofs.Fronts.{tail_same}
use Rattle.limbo_lexer.proofs.Parts.{one_part, no_string, stuck_no_part}
use Rattle.limbo_lexer.proofs.FirstKinds.{kind, first_kind, some_first, at_string, at_character}
use Rattle.limbo_lexer.proofs.PieceLemmas.{one_piece}
use Rattle.limbo_lexer.specs.Numbers.{begins}
use Rattle.limbo_lexer.specs.Constants.{part_spelling, quoted}
use Rattle.limbo_lexer.specs.Tokens.{Piece, Blank, Comment, Letters, Sign, Decimal, Based, Quoted, Character, IsPiece, Stands, AllStand, Cuts, HasTokenList, spelling, tokens_of, is_narrow, is_whole}
use Rattle.limbo_lexer.specs.Pieces.{BeginsPiece, IsStuck, HoldsMore}
use Rattle.limbo_lexer.specs.Causes.{IsCauseAt, Opens, Stops}

pub cuts_none : (text : List ℕ) → Cuts text [] text
cuts_none text = record { pieces = []; spelled = refl; stand = tt; given = refl }

spell_more : (ps : List Piece) (p : Piece) (r : List ℕ) → flat_map spelling (ps ++ p ∷ []) ++ r ≡ flat_map spelling ps ++ (spelling p ++ r)
spell_more [] p r = append_assoc (spelling p) [] r
spell_more (q ∷ ps) p r =
    append_assoc (spelling q) (flat_map spelling (ps ++ p ∷ [])) r ∙ ap (λ x. spelling q ++ x) (spell_more ps p r) ∙ sym (append_assoc (spelling q) (flat_map spelling ps) (spelling p ++ r))

stand_more : (ps : List Piece) (p : Piece) (rest behind : List ℕ) → spelling p ++ behind ≡ rest → Stands p behind → AllStand ps rest → AllStand (ps ++ p ∷ []) behind
stand_more [] p rest behind e h all = (h, tt)
stand_more (q ∷ ps) p rest behind e h all =
    (subst (λ x. Stands q x) (ap (λ x. flat_map spelling ps ++ x) (sym e) ∙ sym (spell_more ps p behind)) all.0, stand_more ps p rest behind e h all.1)

tokens_more : (ps : List Piece) (p : Piece) → flat_map tokens_of (ps ++ p ∷ []) ≡ flat_map tokens_of ps ++ tokens_of p
tokens_more [] p = append-nil (tokens_of p)
tokens_more (q ∷ ps) p = ap (λ x. tokens_of q ++ x) (tokens_more ps p) ∙ sym (append_assoc (tokens_of q) (flat_map tokens_of ps) (tokens_of p))

pub cuts_more : (text : List ℕ) (list : List Kind) (rest : List ℕ) (first : List Kind) (behind : List ℕ) → Cuts text list rest → BeginsPiece rest first behind → Cuts text (list ++ first) behind
cuts_more text list rest first behind c b = record {
  pieces = c.pieces ++ b.piece ∷ [];
  spelled = spell_more c.pieces b.piece behind ∙ ap (λ x. flat_map spelling c.pieces ++ x) b.spelled ∙ c.spelled;
  stand = stand_more c.pieces b.piece rest behind b.spelled b.stands c.stand;
  given = tokens_more c.pieces b.piece ∙ ap (λ x. x ++ tokens_of b.piece) c.given ∙ ap (λ x. list ++ x) b.given;
}

not_empty : (p : Piece) (r : List ℕ) → IsPiece p → [] ≡ spelling p ++ r → ⊥
not_empty p r h e =
    let f = some_first p h in
    let x : [] ≡ f.0 ∷ (f.1 ++ r) = e ∙ ap (λ x. x ++ r) f.2 in
    absurd (cc)

-- What is left of a whole text's pieces behind those that were cut off.
pub record Left (ps qs : List Piece) (rest : List ℕ) : Type 0 where
  pub more : List Piece
  pub stand : AllStand more []
  pub spelled : flat_map spelling more ++ [] ≡ rest
  pub all : qs ≡ ps ++ more

left_of : (ps qs : List Piece) (rest : List ℕ) → AllStand ps rest → AllStand qs [] → flat_map spelling ps ++ rest ≡ flat_map spelling qs ++ [] → Left ps qs rest
left_of [] qs rest h k e = record { more = qs; stand = k; spelled = sym e; all = refl }
left_of (p ∷ ps) [] rest h k e =
    absurd (not_empty p (flat_map spelling ps ++ rest) h.0.formed (sym e ∙ append_assoc (spelling p) (flat_map spelling ps) rest))
left_of (p ∷ ps) (q ∷ qs) rest h k e =
    let one = one_piece p q (flat_map spelling ps ++ rest) (flat_map spelling qs ++ []) h.0.formed k.0.formed h.0.longest k.0.longest (sym (append_assoc (spelling p) (flat_map spelling ps) rest) ∙ e ∙ append_assoc (spelling q) (flat_map spelling qs) []) in
    let left = left_of ps qs rest h.1 k.1 one.1 in
    let same : p ≡ q = one.0 in
    let rests : qs ≡ ps ++ left.more = left.all in
    record { more = left.more; stand = left.stand; spelled = left.spelled; all = cc }

pub left_over : (text : List ℕ) (list : List Kind) (rest : List ℕ) (all : List Kind) → (c : Cuts text list rest) (d : Cuts text all []) → Left c.pieces d.pieces rest
left_over text list rest all c d = left_of c.pieces d.pieces rest c.stand d.stand (c.spelled ∙ sym d.spelled)

-- A text has one list of tokens.
pub one_list : (text : List ℕ) (a b : List Kind) → Cuts text a [] → Cuts text b [] → a ≡ b
one_list text a b c d = sym c.given ∙ ap (flat_map tokens_of) same ∙ d.given where
  none : (ps : List Piece) → AllStand ps [] → flat_map spelling ps ++ [] ≡ [] → ps ≡ []
  none [] h e = refl
  none (p ∷ ps) h e = absurd (not_empty p (flat_map spelling ps ++ []) h.0.formed (sym e ∙ append_assoc (spelling p) (flat_map spelling ps) []))

  left : Left c.pieces d.pieces []
  left = left_over text a [] b c d

  same : c.pieces ≡ d.pieces
  same = sym (left.all ∙ ap (λ x. c.pieces ++ x) (none left.more left.stand left.spelled) ∙ append-nil c.pieces)

pub one_token_list : (text : List ℕ) (a b : List Kind) → HasTokenList text a → HasTokenList text b → a ≡ b
one_token_list text a b h k = sym h.ended ∙ ap (λ x. x ++ kinds.End ∷ []) (one_list text h.tokens k.tokens h.cuts k.cuts) ∙ k.ended

-- Where a constant is opened and stops before its closing quote, no piece stands.
stuck_no_piece : (rest tail : List ℕ) (fault : Cause) → Opens rest tail → IsStuck tail fault → (p : Piece) (u : List ℕ) → IsPiece p → spelling p ++ u ≡ rest → ⊥
stuck_no_piece rest tail fault (inl is) stuck p u h e =
    by_kind p h (e ∙ sym is) (first_kind p 39 tail u h (e ∙ sym is) ∙ at_character)
  where
    by_kind : (o : Piece) → IsPiece o → spelling o ++ u ≡ 39 ∷ tail → kind o ≡ 6 → ⊥
    by_kind (Blank b) h e q = absurd (omega arith)
    by_kind (Comment o) h e q = absurd (omega arith)
    by_kind (Letters o) h e q = absurd (omega arith)
    by_kind (Sign o mark) h e q = absurd (omega arith)
    by_kind (Decimal o) h e q = absurd (omega arith)
    by_kind (Based b r o) h e q = absurd (omega arith)
    by_kind (Quoted o) h e q = absurd (omega arith)
    by_kind (Character o) h e q =
        let tails : (part_spelling o ++ 39 ∷ []) ++ u ≡ tail = tail_same 39 39 ((part_spelling o ++ 39 ∷ []) ++ u) tail e in
        stuck_no_part 39 tail fault stuck o (39 ∷ u) h (sym (append_assoc (part_spelling o) (39 ∷ []) u) ∙ tails)
stuck_no_piece rest tail fault (inr s) stuck p u h e =
    by_kind p h (e ∙ sym s.2) (first_kind p 34 s.0 u h (e ∙ sym s.2) ∙ at_string)
  where
    by_kind : (o : Piece) → IsPiece o → spelling o ++ u ≡ 34 ∷ s.0 → kind o ≡ 3 → ⊥
    by_kind (Blank b) h e q = absurd (omega arith)
    by_kind (Comment o) h e q = absurd (omega arith)
    by_kind (Letters o) h e q = absurd (omega arith)
    by_kind (Sign o mark) h e q = absurd (omega arith)
    by_kind (Decimal o) h e q = absurd (omega arith)
    by_kind (Based b r o) h e q = absurd (omega arith)
    by_kind (Quoted o) h e q =
        let tails : quoted o ++ u ≡ s.0 = tail_same 34 34 (quoted o ++ u) s.0 e in
        no_string s.0 s.1 tail fault s.3 stuck _ u (record { parts = o; formed = h; spelled = sym (append_assoc (flat_map part_spelling o) (34 ∷ []) u) ∙ tails; given = refl })
    by_kind (Character o) h e q = absurd (omega arith)

more_no_piece : (tail : List ℕ) → HoldsMore tail → (p : Piece) (u : List ℕ) → IsPiece p → spelling p ++ u ≡ 39 ∷ tail → ⊥
more_no_piece tail m p u h e = by_kind p h e (first_kind p 39 tail u h e ∙ at_character) where
  by_kind : (o : Piece) → IsPiece o → spelling o ++ u ≡ 39 ∷ tail → kind o ≡ 6 → ⊥
  by_kind (Blank b) h e q = absurd (omega arith)
  by_kind (Comment o) h e q = absurd (omega arith)
  by_kind (Letters o) h e q = absurd (omega arith)
  by_kind (Sign o mark) h e q = absurd (omega arith)
  by_kind (Decimal o) h e q = absurd (omega arith)
  by_kind (Based b r o) h e q = absurd (omega arith)
  by_kind (Quoted o) h e q = absurd (omega arith)
  by_kind (Character o) h e q =
      let tails : (part_spelling o ++ 39 ∷ []) ++ u ≡ tail = tail_same 39 39 ((part_spelling o ++ 39 ∷ []) ++ u) tail e in
      let one = one_part 39 o m.part.part (39 ∷ u) m.rest h m.part.formed (sym (append_assoc (part_spelling o) (39 ∷ []) u) ∙ tails ∙ sym m.part.spelled) in
      false≢true (sym m.unclosed ∙ ap (begins (λ c. c == 39)) (sym one.1))

-- Where a text has a fault no piece may stand.
pub no_piece_at : (rest : List ℕ) (fault : Cause) → (fault ≡ cause.NoMemory → ⊥) → IsCauseAt rest fault → (p : Piece) (u : List ℕ) → Stands p u → spelling p ++ u ≡ rest → ⊥
no_piece_at rest cause.NoMemory n h p u s e = absurd (n refl)
no_piece_at rest cause.BadChar n (inl h) p u s e = h.none p u s.formed e
no_piece_at rest cause.BadChar n (inr h) p u s e =
    let one = one_piece h.piece p h.after u h.formed s.formed h.longest s.longest (h.spelled ∙ sym e) in
    both_ways (is_whole p u) (subst (λ x. is_whole p x ≡ false) one.1 (subst (λ x. is_whole x h.after ≡ false) one.0 h.met)) s.whole
no_piece_at rest cause.NumberTooWide n h p u s e =
    let one = one_piece h.piece p h.after u h.formed s.formed h.longest s.longest (h.spelled ∙ sym e) in
    both_ways (is_narrow p) (subst (λ x. is_narrow x ≡ false) one.0 h.wide) s.narrow
no_piece_at rest cause.BadEscape n h p u s e = stuck_no_piece rest h.tail cause.BadEscape h.opened h.misspelled p u s.formed e
no_piece_at rest cause.Unclosed n (inl h) p u s e = stuck_no_piece rest h.0 cause.Unclosed h.1 h.2 p u s.formed e
no_piece_at rest cause.Unclosed n (inr h) p u s e = more_no_piece h.0 h.2 p u s.formed (e ∙ sym h.1)

opened_left : (rest tail : List ℕ) → Opens rest tail → rest ≡ [] → ⊥
opened_left rest tail (inl is) e = let x : 39 ∷ tail ≡ [] = is ∙ e in absurd (cc)
opened_left rest tail (inr s) e = let x : 34 ∷ s.0 ≡ [] = s.2 ∙ e in absurd (cc)

-- A text isn't at its end where it has a fault.
pub something_left : (rest : List ℕ) (fault : Cause) → (fault ≡ cause.NoMemory → ⊥) → IsCauseAt rest fault → rest ≡ [] → ⊥
something_left rest cause.NoMemory n h e = absurd (n refl)
something_left rest cause.BadChar n (inl h) e = let l = ap length e in let k = h.left in absurd (omega (arith, l, k))
something_left rest cause.BadChar n (inr h) e = not_empty h.piece h.after h.formed (sym e ∙ sym h.spelled)
something_left rest cause.NumberTooWide n h e = not_empty h.piece h.after h.formed (sym e ∙ sym h.spelled)
something_left rest cause.BadEscape n h e = opened_left rest h.tail h.opened e
something_left rest cause.Unclosed n (inl h) e = opened_left rest h.0 h.1 e
something_left rest cause.Unclosed n (inr h) e = let x : 39 ∷ h.0 ≡ [] = h.1 ∙ e in absurd (cc)

-- A text that stops has no token list.
pub stops_none : (text : List ℕ) (fault : Cause) → (fault ≡ cause.NoMemory → ⊥) → Stops text fault → (list : List Kind) → HasTokenList text list → ⊥
stops_none text fault n s list h = by_left left.more left.stand left.spelled where
  left : Left s.cuts.pieces h.cuts.pieces s.rest
  left = left_over text s.tokens s.rest h.tokens s.cuts h.cuts

  by_left : (more : List Piece) → AllStand more [] → flat_map spelling more ++ [] ≡ s.rest → ⊥
  by_left [] k e = something_left s.rest fault n s.at (sym e)
  by_left (p ∷ more) k e =
      no_piece_at s.rest fault n s.at p (flat_map spelling more ++ []) k.0 (sym (append_assoc (spelling p) (flat_map spelling more) []) ∙ e)

-- A piece is taken from the text, so less is left.
pub shorter : (s : List ℕ) (first : List Kind) (rest : List ℕ) → BeginsPiece s first rest → length rest < length s
shorter s first rest b =
    let f = some_first b.piece b.stands.formed in
    let e : f.0 ∷ (f.1 ++ rest) ≡ s = ap (λ x. x ++ rest) (sym f.2) ∙ b.spelled in
    let n : suc (length (f.1 ++ rest)) ≡ length s = ap length e in
    omega (arith, length-append f.1 rest)
