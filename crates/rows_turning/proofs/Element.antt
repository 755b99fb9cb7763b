-- The word of the linkage where else the address of an element stands, while a loop's index is in it.
use Rattle.std.proofs.Common.{◌≡◌, ℕ, pos, ◌+◌, ◌*◌, ◌/◌, ◌≤◌, List, ◌∷◌, length, map, Option, Some, refl, ap, ◌∙◌, subst, arith, inl, inr}
use Rattle.std.specs.List.{range_with_len}
use Rattle.limbo_types.specs.Types.{Ty}
use Rattle.limbo_layout.specs.Adts.{Def, Has}
use Rattle.limbo_layout.specs.Layout.{AllLaid}
use Rattle.limbo_layout.specs.Laying.{rooms_of}
use Rattle.limbo_layout.proofs.Rooms.{has_cases}
use Rattle.limbo_typed.specs.Typed as typed
use Rattle.core_code.specs.Rooms.{rooms_in}
use Rattle.core_code.specs.Machine as code
use Rattle.dis_meaning.specs.Words.{Word, Plain, Refer, Address, Access, Found, ◌>>=◌, word_at, plain}
use Rattle.dis_meaning.specs.Process.{Process}
use Rattle.dis_memory.specs.Blocks.{World}
use Rattle.value_words.specs.Contents.{AreInRange}
use Rattle.value_words.specs.Facts.{Facts}
use Rattle.value_words.proofs.Blank.{mapped}
use Rattle.value_words.proofs.Rows.{is_there}
use Rattle.value_words.proofs.Bytes.{word_there}
use Rattle.value_frames.specs.Frames.{linkage_bytes, answer_place, element_place, spare_place}
use Rattle.value_frames.specs.Frames.{reference_place, frame_bytes, frame_references, row_of as all_room}
use Rattle.value_frames.specs.Types.{AreOf}
use Rattle.value_frames.specs.Slots.{ElseAsWas}
use Rattle.value_frames.proofs.Slots.{slots_change}
use Rattle.value_frames.proofs.Replacing.{kinds_stay}
use Rattle.value_moves.specs.Changing.{Changes}
use Rattle.value_moves.proofs.Changing.{low_or_high}
use Rattle.value_follows.specs.Stands.{types_of, Awaited}
use Rattle.value_follows.proofs.Putting.{word_same}
use Rattle.value_follows.proofs.Several.{moved_to}
use Rattle.value_follows.proofs.Standing.{all_wait}
use Rattle.rows_lists.proofs.OnTheWay.{On}

-- a word that doesn't refer is plain
is_plain : (w : Word) → ((r : Option ℕ) → w ≡ Refer r → ⊥) → plain w ≡ Found w
is_plain (Plain z) none = refl
is_plain (Refer r) none = absurd (none r refl)
is_plain (Address at to) none = refl

module _ (defs : List Def) (types : List Ty) (n : ℕ) (words : List Word) (laid : AllLaid defs types (rooms_of (rooms_in defs) types))
    (are : AreOf (frame_bytes defs types n) (frame_references defs types n) words) where
  -- references lie behind the linkage
  behind_linkage : (o : ℕ) → Has (frame_references defs types n) o → linkage_bytes ≤ o
  behind_linkage o h = elim (has_cases (map (λ o. linkage_bytes + o) (all_room defs types).references)
      (spare_place defs types ∷ map (λ s. reference_place defs types s) (range_with_len 0 n)) o h) [
        | inl i ↦ let a = mapped (λ o. linkage_bytes + o) (all_room defs types).references o i in let f = a.2 in omega (arith, f)
        | inr (inl f) ↦ omega (arith, f)
        | inr (inr i) ↦ let a = mapped (λ s. reference_place defs types s) (range_with_len 0 n) o i in let f = a.2 in omega (arith, f)
      ]

  -- what stands there is plain
  pub element_word : (old : Word) × (word_at words (pos element_place) >>= plain ≡ Found old)
  element_word =
      let many = are.many in
      let old = is_there words 6 (omega (arith, many)) in
      let no : (r : Option ℕ) → old.0 ≡ Refer r → ⊥ = λ r e.
      let low = behind_linkage 24 (are.only 6 r (old.1 ∙ ap (λ (w : Word). Some w) e)) in absurd (omega (arith, low)) in
      (old.0, ap (λ (a : Access Word). a >>= plain) (word_there words element_place old.0 refl old.1) ∙ is_plain old.0 no)

-- Two that are on their way are so at a later instruction, where nothing but a word of the linkage changes that tells where no answer goes.
module _ (m : typed.Module) (k : Facts) (i : ℕ) (x : World) (busy : List ℕ) (n : ℕ) (f : typed.Function) (j : ℕ) (p : code.Process)
    (q : Process) (on : On m k i x busy n f j p q) (at : ℕ) (behind : 20 ≤ at) (in_front : at + 4 ≤ linkage_bytes)
    (others : List Word) (changes : Changes q.frame.words others at 4) (ranged : AreInRange others) where
  abbrev types : List Ty
  types = types_of m f

  else_as_was : ElseAsWas q.frame.words others 0 linkage_bytes
  else_as_was = record {
    each = λ w out. elim (low_or_high (4 * w) linkage_bytes) [
      | inl low ↦ absurd (out (omega arith, low))
      | inr high ↦ changes.words w (inr (omega (arith, in_front, high)))
    ];
  }

  kind : AreOf (frame_bytes m.adts types (length p.frame.slots)) (frame_references m.adts types (length p.frame.slots)) others
  kind =
      kinds_stay.all (frame_bytes m.adts types (length p.frame.slots)) (frame_references m.adts types (length p.frame.slots)) q.frame.words others
      on.words.kind changes.many changes.refer changes.referred ranged

  pub linked : (to j' : ℕ) → to + j ≡ q.frame.pc + j' → On m k i x busy n f j' p (moved_to q to others)
  linked to j' e =
      let after = slots_change.linkage m.adts k x.heap q.frame.serial busy types on.known p.frame.variables p.frame.slots q.frame.words others on.words
      else_as_was kind in
      let at_pc = on.pc in
      let answer = word_same q.frame.words others answer_place (changes.words 4 (inl (omega (arith, behind)))) in
      record {
        process = on.process;
        there = on.there;
        code = on.code;
        answer = on.answer;
        many = on.many;
        instance = on.instance;
        formed = on.formed;
        known = on.known;
        words = after.0;
        mine = λ s b h. on.mine s b (subst (λ (o : ℕ → List ℕ). Has (o s) b) after.1 h);
        fresh = on.fresh;
        goes = on.goes;
        waits = all_wait m k i x Awaited p.frame.answer q.frame (moved_to q to others).frame p.below q.below refl answer on.waits;
        pc = omega (arith, at_pc, e);
        spare =
            word_same q.frame.words others (spare_place m.adts types) (changes.words (spare_place m.adts types / 4) (inr (omega (arith, in_front))))
            ∙ on.spare;
        none_made = on.none_made;
      }

-- words that are as they were
pub nothing_changes : (words : List Word) (at : ℕ) → Changes words words at 4
nothing_changes words at = record {
  many = refl;
  bytes = λ b o. refl;
  words = λ w o. refl;
  refer = λ w r e. (r, e);
  referred = λ w s e. (s, e);
}
