-- What a format comes to: the machine makes the same text of the words of a print's frame as is made of the values that stand there.
use Rattle.std.proofs.Common.{◌≡◌, ℕ, ℤ, Bool, false, pos, ◌+◌, List, [], ◌∷◌, ◌++◌, Option, inl, inr}
use Rattle.std.proofs.Common.{refl, sym, ap, ◌∙◌, subst, arith, if◌then◌else◌, ◌&&◌}
use Rattle.std.specs.Prelude.{◌==◌}
use Rattle.std.specs.Int.{next_multiple_of}
use Rattle.std.specs.Fmt.{signed_decimal}
use Rattle.std.proofs.lemmas.Bool.Decides.{eqb_tells}
use Rattle.system_model.specs.Verbs.{character, hexadecimal}
use Rattle.limbo_types.specs.Types as ty
use Rattle.limbo_types.specs.Types.{Ty}
use Rattle.limbo_layout.specs.Adts.{Def}
use Rattle.limbo_layout.specs.Layout.{Room, behind, number, reference as reference_room}
use Rattle.limbo_layout.specs.Laying.{room, rooms_of}
use Rattle.limbo_values.specs.declared.number.Kind.{Kind}
use Rattle.limbo_values.specs.declared.number.Kind.TheVariants as kind
use Rattle.limbo_typed.specs.declared.print.Hole.{Hole}
use Rattle.limbo_typed.specs.declared.print.Hole.TheVariants as hole
use Rattle.limbo_typed.specs.declared.print.Piece.{Piece}
use Rattle.limbo_typed.specs.declared.print.Piece.TheVariants as piece
use Rattle.limbo_meaning.specs.Formats as source
use Rattle.limbo_meaning.specs.Values.{Value, Num, Chars, number_of, text_of}
use Rattle.core_code.specs.Rooms.{rooms_in}
use Rattle.core_typing.specs.Needs.{printed}
use Rattle.dis_meaning.specs.Words.{Word, Refer, Access, Found, ◌>>=◌, word_at, reference}
use Rattle.dis_meaning.specs.Formats.{bytes_taken, in_front}
use Rattle.dis_meaning.specs.Numbers.{number_at}
use Rattle.dis_memory.specs.Blocks.{World}
use Rattle.dis_memory.specs.Kinds.{text_at}
use Rattle.dis_memory.specs.Formats as machine
use Rattle.dis_memory.specs.Formats.{fitting}
use Rattle.value_words.specs.Facts.{Facts, IsText}
use Rattle.value_words.specs.Stands.{Stands, a_number, a_text, a_name, an_array, no_words, a_tuple, an_adt}
use Rattle.value_words.specs.Stands.{AllStand, none_stand, more_stand}
use Rattle.value_code.specs.Code.{doubled, format_text}
use Rattle.value_follows.proofs.Slots.{NumberAt, number_there}
use Rattle.rows_printing.specs.Rows.{PiecesRun}

-- ---- values by their types

module _ (defs : List Def) (k : Facts) (words : List Word) where
  pub record TextAt (at : ℕ) (v : Value) : Type 0 where
    pub chars : List ℕ
    pub is : v ≡ Chars chars
    pub refers : Option ℕ
    pub word : word_at words (pos at) ≡ Found (Refer refers)
    pub text : IsText k refers chars

  pub text_there : (at : ℕ) (t : Ty) (v : Value) → t ≡ ty.Chars → Stands defs k words at t v → TextAt at v
  text_there _ _ _ e (a_number at kind.Byte z g i) = absurd cc
  text_there _ _ _ e (a_number at kind.Int z g i) = absurd cc
  text_there _ _ _ e (a_number at kind.Big z g i) = absurd cc
  text_there _ _ _ e (a_text at r s g i) = record { chars = s; is = refl; refers = r; word = g; text = i }
  text_there _ _ _ e (a_name at ty.Chars r n i g h) = absurd i
  text_there _ _ _ e (a_name at t r n i g h) = absurd cc
  text_there _ _ _ e (an_array at t r p g h) = absurd cc
  text_there _ _ _ e (no_words at) = absurd cc
  text_there _ _ _ e (a_tuple at ts rs vs l all) = absurd cc
  text_there _ _ _ e (an_adt at n d rs vs g l all) = absurd cc

  -- The first of several parts, and the others behind it.
  pub record First (at : ℕ) (w : Room) (t : Ty) (ts : List Ty) (rs : List Room) (vs : List Value) : Type 0 where
    pub room_of : Room
    pub rooms : List Room
    pub rooms_are : rs ≡ room_of ∷ rooms
    pub value : Value
    pub others : List Value
    pub values_are : vs ≡ value ∷ others
    pub here : Stands defs k words (at + next_multiple_of w.size room_of.align) t value
    pub rest : AllStand defs k words at (behind w room_of) ts rooms others

  pub first_part : (at : ℕ) (w : Room) (us : List Ty) (rs : List Room) (vs : List Value) → AllStand defs k words at w us rs vs → (t : Ty) (ts : List Ty)
      → us ≡ t ∷ ts → First at w t ts rs vs
  first_part _ _ _ _ _ (none_stand at w) t ts e = absurd cc
  first_part _ _ _ _ _ (more_stand at w u us r rs v vs s rest) t ts e =
      let a : u ≡ t = cc in
      let b : us ≡ ts = cc in
      record {
        room_of = r;
        rooms = rs;
        rooms_are = refl;
        value = v;
        others = vs;
        values_are = refl;
        here = subst (λ (y : Ty). Stands defs k words (at + next_multiple_of w.size r.align) y v) a s;
        rest = subst (λ (ys : List Ty). AllStand defs k words at (behind w r) ys rs vs) b rest;
      }

  no_parts : (at : ℕ) (w : Room) (us : List Ty) (rs : List Room) (vs : List Value) → AllStand defs k words at w us rs vs → us ≡ [] → vs ≡ []
  no_parts _ _ _ _ _ (none_stand at w) e = refl
  no_parts _ _ _ _ _ (more_stand at w u us r rs v vs s rest) e = absurd cc

-- ---- formats by their pieces

module _ (x : World) (words : List Word) where
  -- a character that is no `%`
  plainly : (c : ℕ) → (c == 37) ≡ false → (cs : List ℕ) (from : ℕ)
      → machine.formatted x words (c ∷ cs) from ≡ in_front (c ∷ []) (machine.formatted x words cs from)
  plainly c ne [] from = ap (λ (b : Bool). if b then machine.bad_format else Found (c ∷ [])) ne
  plainly c ne (d ∷ []) from =
      ap (λ (b : Bool). if b then machine.verb x words d from (λ from. Found []) else in_front (c ∷ []) (machine.formatted x words (d ∷ []) from)) ne
  plainly c ne (d ∷ e ∷ cs) from =
      ap (λ (b : Bool). if b then
      (if d == 98 && e == 100 then machine.taking x words kind.Big signed_decimal from (λ from. machine.formatted x words cs from)
      else machine.verb x words d from (λ from. machine.formatted x words (e ∷ cs) from))
      else in_front (c ∷ []) (machine.formatted x words (d ∷ e ∷ cs) from)) ne

  -- a verb of one character
  by_verb : (c : ℕ) → (c == 98) ≡ false → (cs : List ℕ) (from : ℕ)
      → machine.formatted x words (37 ∷ c ∷ cs) from ≡ machine.verb x words c from (λ from. machine.formatted x words cs from)
  by_verb c ne [] from = refl
  by_verb c ne (e ∷ cs) from =
      ap (λ (b : Bool). if b && e == 100 then machine.taking x words kind.Big signed_decimal from (λ from. machine.formatted x words cs from)
      else machine.verb x words c from (λ from. machine.formatted x words (e ∷ cs) from)) ne

  doubles : (cs rest : List ℕ) (from : ℕ) (t : List ℕ) → machine.formatted x words rest from ≡ Found t
      → machine.formatted x words (doubled cs ++ rest) from ≡ Found (cs ++ t)
  doubles [] rest from t e = e
  doubles (c ∷ cs) rest from t e = elim (eqb_tells c 37) [
    | inl y ↦
        ap (λ (b : Bool). machine.formatted x words ((if b then 37 ∷ 37 ∷ doubled cs else c ∷ doubled cs) ++ rest) from) y.0
        ∙ (by_verb 37 refl (doubled cs ++ rest) from
        ∙ (ap (in_front (37 ∷ [])) (doubles cs rest from t e)
        ∙ ap (λ (d : ℕ). Found (d ∷ cs ++ t)) (sym y.1)))
    | inr y ↦
        ap (λ (b : Bool). machine.formatted x words ((if b then 37 ∷ 37 ∷ doubled cs else c ∷ doubled cs) ++ rest) from) y.0
        ∙ (plainly c y.0 (doubled cs ++ rest) from
        ∙ ap (in_front (c ∷ [])) (doubles cs rest from t e))
  ]

  takes : (j : Kind) (text : ℤ → List ℕ) (from at : ℕ) (rest : ℕ → Access (List ℕ)) (z : ℤ) (t : List ℕ)
      → next_multiple_of from (bytes_taken j) ≡ at → number_at j words (pos at) ≡ Found z → rest (at + bytes_taken j) ≡ Found t
      → machine.taking x words j text from rest ≡ Found (text z ++ t)
  takes j text from at rest z t e f g =
      ap (λ (n : ℕ). fitting (number_at j words (pos n)) >>= λ z. in_front (text z) (rest (n + bytes_taken j))) e
      ∙ (ap (λ (a : Access ℤ). fitting a >>= λ z. in_front (text z) (rest (at + bytes_taken j))) f
      ∙ ap (in_front (text z)) g)

  takes_text : (from at : ℕ) (rest : ℕ → Access (List ℕ)) (r : Option ℕ) (s t : List ℕ) → next_multiple_of from 4 ≡ at
      → word_at words (pos at) ≡ Found (Refer r) → text_at x r ≡ Found s → rest (at + 4) ≡ Found t
      → machine.taking_text x words from rest ≡ Found (s ++ t)
  takes_text from at rest r s t e f g h =
      ap (λ (n : ℕ). fitting (word_at words (pos n) >>= reference >>= text_at x) >>= λ t. in_front t (rest (n + 4))) e
      ∙ (ap (λ (a : Access Word). fitting (a >>= reference >>= text_at x) >>= λ t. in_front t (rest (at + 4))) f
      ∙ (ap (λ (a : Access (List ℕ)). fitting a >>= λ t. in_front t (rest (at + 4))) g
      ∙ ap (in_front s) h))

  -- without values nothing but characters is printed
  pub plain_formats : (ps : List Piece) → printed ps ≡ [] → (from : ℕ) → machine.formatted x words (format_text ps) from ≡ Found (source.formatted ps [])
  plain_formats [] e from = refl
  plain_formats (piece.Chars cs ∷ ps) e from =
      doubles cs (format_text ps) from (source.formatted ps []) (plain_formats ps e from)
  plain_formats (piece.Hole (hole.Decimal kind.Byte) ∷ ps) e from = absurd cc
  plain_formats (piece.Hole (hole.Decimal kind.Int) ∷ ps) e from = absurd cc
  plain_formats (piece.Hole (hole.Decimal kind.Big) ∷ ps) e from = absurd cc
  plain_formats (piece.Hole hole.Character ∷ ps) e from = absurd cc
  plain_formats (piece.Hole hole.Hexadecimal ∷ ps) e from = absurd cc
  plain_formats (piece.Hole hole.Chars ∷ ps) e from = absurd cc
  plain_formats (piece.Hole hole.Error ∷ ps) e from = plain_formats ps e from

  module _ (defs : List Def) (k : Facts) (reads : (at : ℕ) (r : Option ℕ) (s : List ℕ) → IsText k r s → word_at words (pos at) ≡ Found (Refer r)
      → text_at x r ≡ Found s) where
    abbrev rooms : List Ty → List Room
    rooms ts = rooms_of (rooms_in defs) ts

    -- Where values stand from 32 on, behind what takes so much room, the text that is made of them is made of the words from there on.
    abbrev Makes : List Piece → Type 0
    Makes ps =
        (w : Room) (from : ℕ) → from ≡ 32 + w.size → (rs : List Room) (vs : List Value) → rs ≡ rooms (printed ps)
        → AllStand defs k words 32 w (printed ps) rs vs → machine.formatted x words (format_text ps) from ≡ Found (source.formatted ps vs)

    same_room : (r s : Room) (rs ss : List Room) (us : List Room) → us ≡ r ∷ rs → us ≡ s ∷ ss → r ≡ s
    same_room r s rs ss us e f = let z : r ∷ rs ≡ s ∷ ss = sym e ∙ f in cc

    same_rest : (r s : Room) (rs ss : List Room) (us : List Room) → us ≡ r ∷ rs → us ≡ s ∷ ss → rs ≡ ss
    same_rest r s rs ss us e f = let z : r ∷ rs ≡ s ∷ ss = sym e ∙ f in cc

    -- What a number's hole makes.
    number_hole : (j : Kind) (t : Ty) (r : Room) (h : Hole) (ps : List Piece) (text : ℤ → List ℕ)
        → ((at : ℕ) (v : Value) → Stands defs k words at t v → NumberAt defs k words at j v)
        → ((v : Value) (z : ℤ) → v ≡ Num z → source.hole_text h v ≡ text z)
        → printed (piece.Hole h ∷ ps) ≡ t ∷ printed ps → room (rooms_in defs) t ≡ r → r.size ≡ bytes_taken j → r.align ≡ bytes_taken j
        → ((from : ℕ) → machine.formatted x words (format_text (piece.Hole h ∷ ps)) from
        ≡ machine.taking x words j text from (λ from. machine.formatted x words (format_text ps) from))
        → ((n : ℕ) → next_multiple_of (32 + n) (bytes_taken j) ≡ 32 + next_multiple_of n (bytes_taken j))
        → Makes ps → Makes (piece.Hole h ∷ ps)
    number_hole j t r h ps text number_of_it says is room_is size align format next makes w from e rs vs f all =
        let a = first_part defs k words 32 w (printed (piece.Hole h ∷ ps)) rs vs all t (printed ps) is in
        let here : a.room_of ≡ r = same_room a.room_of (room (rooms_in defs) t) a.rooms (rooms (printed ps)) rs a.rooms_are (f ∙ ap rooms is) ∙ room_is in
        let others : a.rooms ≡ rooms (printed ps) = same_rest a.room_of (room (rooms_in defs) t) a.rooms (rooms (printed ps)) rs a.rooms_are (f ∙ ap rooms is) in
        let at_is : 32 + next_multiple_of w.size a.room_of.align ≡ 32 + next_multiple_of w.size (bytes_taken j) =
        ap (λ (q : Room). 32 + next_multiple_of w.size q.align) here ∙ ap (λ (n : ℕ). 32 + next_multiple_of w.size n) align in
        let n = number_of_it (32 + next_multiple_of w.size a.room_of.align) a.value a.here in
        let size_is : (behind w a.room_of).size ≡ next_multiple_of w.size (bytes_taken j) + bytes_taken j =
        ap (λ (q : Room). (behind w q).size) here ∙ (ap (λ (n : ℕ). next_multiple_of w.size n + r.size) align
        ∙ ap (λ (n : ℕ). next_multiple_of w.size (bytes_taken j) + n) size) in
        let rest = makes (behind w a.room_of) (32 + next_multiple_of w.size (bytes_taken j) + bytes_taken j)
        (let s = size_is in omega (arith, s)) a.rooms a.others others a.rest in
        format from
        ∙ (takes j text from (32 + next_multiple_of w.size (bytes_taken j)) (λ from. machine.formatted x words (format_text ps) from) n.number
        (source.formatted ps a.others) (ap (λ (m : ℕ). next_multiple_of m (bytes_taken j)) e ∙ next w.size)
        (ap (λ (m : ℕ). number_at j words (pos m)) (sym at_is) ∙ n.found) rest
        ∙ (ap (λ (s : List ℕ). Found (s ++ source.formatted ps a.others)) (sym (says a.value n.number n.is))
        ∙ ap (λ (vs : List Value). Found (source.formatted (piece.Hole h ∷ ps) vs)) (sym a.values_are)))

    text_hole : (ps : List Piece) → Makes ps → Makes (piece.Hole hole.Chars ∷ ps)
    text_hole ps makes w from e rs vs f all =
        let a = first_part defs k words 32 w (printed (piece.Hole hole.Chars ∷ ps)) rs vs all ty.Chars (printed ps) refl in
        let here : a.room_of ≡ reference_room = same_room a.room_of reference_room a.rooms (rooms (printed ps)) rs a.rooms_are f in
        let others : a.rooms ≡ rooms (printed ps) = same_rest a.room_of reference_room a.rooms (rooms (printed ps)) rs a.rooms_are f in
        let at_is : 32 + next_multiple_of w.size a.room_of.align ≡ 32 + next_multiple_of w.size 4 = ap (λ (q : Room). 32 + next_multiple_of w.size q.align) here in
        let s = text_there defs k words (32 + next_multiple_of w.size a.room_of.align) ty.Chars a.value refl a.here in
        let word = ap (λ (m : ℕ). word_at words (pos m)) (sym at_is) ∙ s.word in
        let size_is : (behind w a.room_of).size ≡ next_multiple_of w.size 4 + 4 = ap (λ (q : Room). (behind w q).size) here in
        let rest = makes (behind w a.room_of) (32 + next_multiple_of w.size 4 + 4)
        (let z = size_is in omega (arith, z)) a.rooms a.others others a.rest in
        by_verb 115 refl (format_text ps) from
        ∙ (takes_text from (32 + next_multiple_of w.size 4) (λ from. machine.formatted x words (format_text ps) from) s.refers s.chars
        (source.formatted ps a.others) (ap (λ (m : ℕ). next_multiple_of m 4) e ∙ omega arith) word
        (reads (32 + next_multiple_of w.size 4) s.refers s.chars s.text word) rest
        ∙ (ap (λ (v : Value). Found (text_of v ++ source.formatted ps a.others)) (sym s.is)
        ∙ ap (λ (vs : List Value). Found (source.formatted (piece.Hole hole.Chars ∷ ps) vs)) (sym a.values_are)))

    fours : (n : ℕ) → next_multiple_of (32 + n) 4 ≡ 32 + next_multiple_of n 4
    fours n = omega arith

    eights : (n : ℕ) → next_multiple_of (32 + n) 8 ≡ 32 + next_multiple_of n 8
    eights n = omega arith

    pub formats : (ps : List Piece) → PiecesRun ps → Makes ps
    formats [] runs = λ w from e rs vs f all. refl
    formats (piece.Chars cs ∷ ps) runs = λ w from e rs vs f all.
        doubles cs (format_text ps) from (source.formatted ps vs) (formats ps runs w from e rs vs f all)
    formats (piece.Hole (hole.Decimal kind.Byte) ∷ ps) runs =
        number_hole kind.Int ty.Int (number 4) (hole.Decimal kind.Byte) ps signed_decimal
        (λ at v s. number_there defs k words at ty.Int v kind.Int refl s) (λ v z e. ap (λ (u : Value). signed_decimal (number_of u)) e) refl refl refl refl
        (λ from. by_verb 100 refl (format_text ps) from) fours (formats ps runs.1)
    formats (piece.Hole (hole.Decimal kind.Int) ∷ ps) runs =
        number_hole kind.Int ty.Int (number 4) (hole.Decimal kind.Int) ps signed_decimal
        (λ at v s. number_there defs k words at ty.Int v kind.Int refl s) (λ v z e. ap (λ (u : Value). signed_decimal (number_of u)) e) refl refl refl refl
        (λ from. by_verb 100 refl (format_text ps) from) fours (formats ps runs.1)
    formats (piece.Hole (hole.Decimal kind.Big) ∷ ps) runs =
        number_hole kind.Big ty.Big (number 8) (hole.Decimal kind.Big) ps signed_decimal
        (λ at v s. number_there defs k words at ty.Big v kind.Big refl s) (λ v z e. ap (λ (u : Value). signed_decimal (number_of u)) e) refl refl refl refl
        (λ from. refl) eights (formats ps runs.1)
    formats (piece.Hole hole.Character ∷ ps) runs =
        number_hole kind.Int ty.Int (number 4) hole.Character ps (λ z. character z ∷ [])
        (λ at v s. number_there defs k words at ty.Int v kind.Int refl s) (λ v z e. ap (λ (u : Value). character (number_of u) ∷ []) e) refl refl refl refl
        (λ from. by_verb 99 refl (format_text ps) from) fours (formats ps runs.1)
    formats (piece.Hole hole.Hexadecimal ∷ ps) runs =
        number_hole kind.Int ty.Int (number 4) hole.Hexadecimal ps hexadecimal
        (λ at v s. number_there defs k words at ty.Int v kind.Int refl s) (λ v z e. ap (λ (u : Value). hexadecimal (number_of u)) e) refl refl refl refl
        (λ from. by_verb 120 refl (format_text ps) from) fours (formats ps runs.1)
    formats (piece.Hole hole.Chars ∷ ps) runs = text_hole ps (formats ps runs.1)
    formats (piece.Hole hole.Error ∷ ps) runs = absurd runs.0
