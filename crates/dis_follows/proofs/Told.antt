-- What the machine makes of the text of a format is what the program makes of the format.
use Rattle.std.proofs.Common.{◌≡◌, ℕ, suc, ◌+◌, pos, ℤ, Bool, true, false, List, [], ◌∷◌, ◌++◌, length, map, Some, refl, sym, ap, ◌∙◌}
use Rattle.std.proofs.Common.{subst, arith, if◌then◌else◌}
use Rattle.std.specs.Prelude.{◌==◌, ◌&&◌, slice_get}
use Rattle.std.proofs.lemmas.Bool.{eqb-true}
use Rattle.std.specs.Int.{next_multiple_of}
use Rattle.std.specs.Fmt.{signed_decimal}
use Rattle.limbo_values.specs.declared.number.Kind.{Kind}
use Rattle.limbo_values.specs.declared.number.Kind.TheVariants.{Byte, Int, Big}
use Rattle.limbo_typed.specs.declared.print.Hole.TheVariants as hole
use Rattle.limbo_typed.specs.declared.print.Piece.{Piece}
use Rattle.limbo_typed.specs.declared.print.Piece.TheVariants as piece
use Rattle.system_model.specs.Values.{Value, Num}
use Rattle.system_model.specs.Verbs.{character, hexadecimal}
use Rattle.typed_meaning.specs.Formats as program
use Rattle.slot_code.specs.Layout.{place_in}
use Rattle.slot_code.specs.Machine.{taken}
use Rattle.dis_meaning.specs.Words.{Word, Access, Found, Wrong, ◌>>=◌, type_check}
use Rattle.dis_meaning.specs.Numbers.{number_at}
use Rattle.dis_meaning.specs.Formats.{in_front, taking, verb, formatted, bytes_taken}
use Rattle.dis_objects.specs.Frames.{printed_kinds}
use Rattle.dis_objects.specs.Code.{doubled, format_text}
use Rattle.dis_objects.specs.Proper.{AllTellNumbers}
use Rattle.dis_follows.specs.Numbers.{Holds}

module _ (words : List Word) where
  -- ---- characters

  -- `%%` is the character.
  percent : (cs : List ℕ) (from : ℕ) → formatted words (37 ∷ 37 ∷ cs) from ≡ in_front (37 ∷ []) (formatted words cs from)
  percent [] from = refl
  percent (c ∷ cs) from = refl

  -- Any other stands for itself.
  itself : (c : ℕ) (cs : List ℕ) (from : ℕ) → (c == 37) ≡ false
      → formatted words (c ∷ cs) from ≡ in_front (c ∷ []) (formatted words cs from)
  itself c [] from ne = ap (λ b. if b then Wrong type_check else Found (c ∷ [])) ne
  itself c (d ∷ []) from ne =
      ap (λ b. if b then verb words d from (λ from. Found []) else in_front (c ∷ []) (formatted words (d ∷ []) from)) ne
  itself c (d ∷ e ∷ cs) from ne =
      ap (λ b. if b then
      (if d == 98 && e == 100 then taking words Big signed_decimal from (λ from. formatted words cs from)
      else verb words d from (λ from. formatted words (e ∷ cs) from))
      else in_front (c ∷ []) (formatted words (d ∷ e ∷ cs) from)) ne

  -- Text in front of what is found.
  front : (cs text : List ℕ) (a : Access (List ℕ)) → a ≡ Found text → in_front cs a ≡ Found (cs ++ text)
  front cs text a e = ap (in_front cs) e

  -- One more character.
  one_more : (c : ℕ) (cs rest : List ℕ) (from : ℕ) (text : List ℕ) → formatted words (doubled cs ++ rest) from ≡ Found (cs ++ text)
      → formatted words (doubled (c ∷ cs) ++ rest) from ≡ Found (c ∷ cs ++ text)
  one_more c cs rest from text more = go (c == 37) refl
    where
      go : (b : Bool) → (c == 37) ≡ b → formatted words ((if c == 37 then 37 ∷ 37 ∷ doubled cs else c ∷ doubled cs) ++ rest) from
          ≡ Found (c ∷ cs ++ text)
      go true q =
          let same : c ≡ 37 = eqb-true c 37 q in
          ap (λ b. formatted words ((if b then 37 ∷ 37 ∷ doubled cs else c ∷ doubled cs) ++ rest) from) q
          ∙ percent (doubled cs ++ rest) from
          ∙ front (37 ∷ []) (cs ++ text) (formatted words (doubled cs ++ rest) from) more
          ∙ ap (λ c. Found (c ∷ cs ++ text)) (sym same)
      go false q =
          ap (λ b. formatted words ((if b then 37 ∷ 37 ∷ doubled cs else c ∷ doubled cs) ++ rest) from) q
          ∙ itself c (doubled cs ++ rest) from q
          ∙ front (c ∷ []) (cs ++ text) (formatted words (doubled cs ++ rest) from) more

  characters : (cs rest : List ℕ) (from : ℕ) (text : List ℕ) → formatted words rest from ≡ Found text
      → formatted words (doubled cs ++ rest) from ≡ Found (cs ++ text)
  characters [] rest from text e = e
  characters (c ∷ cs) rest from text e = one_more c cs rest from text (characters cs rest from text e)

  -- ---- holes

  -- A verb in front of what follows.
  decimal : (cs : List ℕ) (from : ℕ)
      → formatted words (37 ∷ 100 ∷ cs) from ≡ taking words Int signed_decimal from (λ from. formatted words cs from)
  decimal [] from = refl
  decimal (c ∷ cs) from = refl

  as_character : (cs : List ℕ) (from : ℕ)
      → formatted words (37 ∷ 99 ∷ cs) from ≡ taking words Int (λ z. character z ∷ []) from (λ from. formatted words cs from)
  as_character [] from = refl
  as_character (c ∷ cs) from = refl

  as_hexadecimal : (cs : List ℕ) (from : ℕ)
      → formatted words (37 ∷ 120 ∷ cs) from ≡ taking words Int hexadecimal from (λ from. formatted words cs from)
  as_hexadecimal [] from = refl
  as_hexadecimal (c ∷ cs) from = refl

  -- A number that is there is told.
  takes : (k : Kind) (tell : ℤ → List ℕ) (from : ℕ) (rest : ℕ → Access (List ℕ)) (z : ℤ) (text : List ℕ)
      → number_at k words (pos (next_multiple_of from (bytes_taken k))) ≡ Found z
      → rest (next_multiple_of from (bytes_taken k) + bytes_taken k) ≡ Found text → taking words k tell from rest ≡ Found (tell z ++ text)
  takes k tell from rest z text e f =
      ap (λ a. a >>= λ z. in_front (tell z) (rest (next_multiple_of from (bytes_taken k) + bytes_taken k))) e
      ∙ ap (in_front (tell z)) f

  -- ---- formats

  -- The numbers of these kinds are there from a place on.
  abbrev pub AreThere : (from : ℕ) → List Kind → (ℕ → Value) → (first : ℕ) → Type 0
  AreThere from ks values i = (j : ℕ) (k : Kind) → slice_get ks j ≡ Some k → Holds k words (place_in from (map Some ks) j) (values (i + j))

  told : (k : Kind) (ks : List Kind) (tell : ℤ → List ℕ) (text : Value → List ℕ) → ((z : ℤ) → text (Num z) ≡ tell z) → (from : ℕ)
      → (values : ℕ → Value) (i : ℕ) → AreThere from (k ∷ ks) values i → (k ≡ Byte → ⊥) → (rest : ℕ → Access (List ℕ)) (more : List ℕ)
      → ((at : ℕ) → AreThere at ks values (suc i) → rest at ≡ Found more) → taking words k tell from rest ≡ Found (text (values i) ++ more)
  told Byte ks tell text same from values i there ne rest more f = absurd (ne refl)
  told Int ks tell text same from values i there ne rest more f =
      let h = there 0 Int refl in
      let zero_plus : i + 0 ≡ i = omega arith in
      let is : values i ≡ Num h.number = ap values (sym zero_plus) ∙ h.is in
      takes Int tell from rest h.number more h.there
      (f (next_multiple_of from 4 + 4)
      (λ j k e. subst (λ n. Holds k words (place_in (next_multiple_of from 4 + 4) (map Some ks) j) (values n)) (omega arith)
      (there (suc j) k e)))
      ∙ ap (λ t. Found (t ++ more)) (sym (same h.number)) ∙ ap (λ v. Found (text v ++ more)) (sym is)
  told Big ks tell text same from values i there ne rest more f =
      let h = there 0 Big refl in
      let zero_plus : i + 0 ≡ i = omega arith in
      let is : values i ≡ Num h.number = ap values (sym zero_plus) ∙ h.is in
      takes Big tell from rest h.number more h.there
      (f (next_multiple_of from 8 + 8)
      (λ j k e. subst (λ n. Holds k words (place_in (next_multiple_of from 8 + 8) (map Some ks) j) (values n)) (omega arith)
      (there (suc j) k e)))
      ∙ ap (λ t. Found (t ++ more)) (sym (same h.number)) ∙ ap (λ v. Found (text v ++ more)) (sym is)

  abbrev Tells : List Piece → (from : ℕ) → (values : ℕ → Value) → (first : ℕ) → Type 0
  Tells ps from values i =
      formatted words (format_text ps) from ≡ Found (program.text_of ps (taken values i (length (printed_kinds ps))))

  pub tells : (ps : List Piece) → AllTellNumbers ps → (from : ℕ) (values : ℕ → Value) (i : ℕ) → AreThere from (printed_kinds ps) values i
      → Tells ps from values i
  tells [] h from values i there = refl
  tells (piece.Chars cs ∷ ps) h from values i there = characters cs (format_text ps) from _ (tells ps h from values i there)
  tells (piece.Hole (hole.Decimal Byte) ∷ ps) h from values i there =
      decimal (format_text ps) from
      ∙ told Int (printed_kinds ps) signed_decimal (program.hole_text (hole.Decimal Byte)) (λ z. refl) from values i there (λ e. cc)
      (λ from. formatted words (format_text ps) from) _ (λ at t. tells ps h.1 at values (suc i) t)
  tells (piece.Hole (hole.Decimal Int) ∷ ps) h from values i there =
      decimal (format_text ps) from
      ∙ told Int (printed_kinds ps) signed_decimal (program.hole_text (hole.Decimal Int)) (λ z. refl) from values i there (λ e. cc)
      (λ from. formatted words (format_text ps) from) _ (λ at t. tells ps h.1 at values (suc i) t)
  tells (piece.Hole (hole.Decimal Big) ∷ ps) h from values i there =
      told Big (printed_kinds ps) signed_decimal (program.hole_text (hole.Decimal Big)) (λ z. refl) from values i there (λ e. cc)
      (λ from. formatted words (format_text ps) from) _ (λ at t. tells ps h.1 at values (suc i) t)
  tells (piece.Hole hole.Character ∷ ps) h from values i there =
      as_character (format_text ps) from
      ∙ told Int (printed_kinds ps) (λ z. character z ∷ []) (program.hole_text hole.Character) (λ z. refl) from values i there (λ e. cc)
      (λ from. formatted words (format_text ps) from) _ (λ at t. tells ps h.1 at values (suc i) t)
  tells (piece.Hole hole.Hexadecimal ∷ ps) h from values i there =
      as_hexadecimal (format_text ps) from
      ∙ told Int (printed_kinds ps) hexadecimal (program.hole_text hole.Hexadecimal) (λ z. refl) from values i there (λ e. cc)
      (λ from. formatted words (format_text ps) from) _ (λ at t. tells ps h.1 at values (suc i) t)
  tells (piece.Hole hole.Chars ∷ ps) h from values i there = absurd h.0
  tells (piece.Hole hole.Error ∷ ps) h from values i there = absurd h.0
