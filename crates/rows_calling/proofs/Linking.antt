-- Words of the linkage: none of them refers, and what is stored there changes nothing that a frame stands for.
use Rattle.std.proofs.Common.{◌≡◌, ℕ, suc, pos, ◌+◌, ◌*◌, ◌/◌, ◌<◌, ◌≤◌, List, ◌∷◌, length, map, Option, Some, refl, ap, ◌∙◌, subst, arith, inl, inr}
use Rattle.std.specs.Prelude.{slice_get}
use Rattle.std.specs.List.{range_with_len}
use Rattle.limbo_types.specs.Types.{Ty}
use Rattle.limbo_layout.specs.Adts.{Def, Has}
use Rattle.limbo_layout.proofs.Rooms.{has_cases}
use Rattle.limbo_typed.specs.Typed as typed
use Rattle.core_code.specs.Machine as code
use Rattle.dis_meaning.specs.Words.{Word, Plain, Refer, Address, Access, Found, ◌>>=◌, word_at, plain}
use Rattle.dis_meaning.specs.Process.{Frame, Process, with_words, at_pc, with_frames}
use Rattle.dis_memory.specs.Blocks.{World}
use Rattle.value_words.specs.Contents.{AreInRange}
use Rattle.value_words.specs.Facts.{Facts}
use Rattle.value_words.proofs.Blank.{mapped}
use Rattle.value_words.proofs.Rows.{is_there}
use Rattle.value_words.proofs.Bytes.{word_there}
use Rattle.value_frames.specs.Frames.{linkage_bytes, answer_place, spare_place, reference_place, frame_bytes, frame_references, row_of as all_room}
use Rattle.value_frames.specs.Types.{AreOf}
use Rattle.value_frames.specs.Slots.{ElseAsWas}
use Rattle.value_frames.proofs.Slots.{slots_change}
use Rattle.value_frames.proofs.Replacing.{kinds_stay}
use Rattle.value_moves.specs.Changing.{Changes}
use Rattle.value_moves.proofs.Changing.{low_or_high}
use Rattle.value_follows.specs.Stands.{types_of, Awaited}
use Rattle.value_follows.proofs.Putting.{word_same}
use Rattle.value_follows.proofs.Standing.{all_wait}
use Rattle.rows_calling.proofs.OnTheWay.{On}

-- a word that doesn't refer is plain
is_plain : (w : Word) → ((r : Option ℕ) → w ≡ Refer r → ⊥) → plain w ≡ Found w
is_plain (Plain z) none = refl
is_plain (Refer r) none = absurd (none r refl)
is_plain (Address at to) none = refl

module _ (defs : List Def) (types : List Ty) (n : ℕ) (words : List Word) (are : AreOf (frame_bytes defs types n) (frame_references defs types n) words) where
  -- references lie behind the linkage
  behind_linkage : (o : ℕ) → Has (frame_references defs types n) o → linkage_bytes ≤ o
  behind_linkage o h = elim (has_cases (map (λ o. linkage_bytes + o) (all_room defs types).references)
      (spare_place defs types ∷ map (λ s. reference_place defs types s) (range_with_len 0 n)) o h) [
        | inl i ↦ let a = mapped (λ o. linkage_bytes + o) (all_room defs types).references o i in let f = a.2 in omega (arith, f)
        | inr (inl f) ↦ omega (arith, f)
        | inr (inr i) ↦ let a = mapped (λ s. reference_place defs types s) (range_with_len 0 n) o i in let f = a.2 in omega (arith, f)
      ]

  -- so each word of the linkage is plain
  pub linkage_word : (w : ℕ) → w < 8 → (old : Word) × (word_at words (pos (4 * w)) >>= plain ≡ Found old)
  linkage_word w small =
      let many = are.many in
      let old = is_there words w (omega (arith, many, small)) in
      let no : (r : Option ℕ) → old.0 ≡ Refer r → ⊥ = λ r e.
      let low = behind_linkage (4 * w) (are.only w r (old.1 ∙ ap (λ (v : Word). Some v) e)) in absurd (omega (arith, low, small)) in
      let at : 4 * w / 4 ≡ w = omega arith in (
        old.0,
        ap (λ (a : Access Word). a >>= plain)
            (word_there words (4 * w) old.0 (omega arith) (ap (slice_get words) at ∙ old.1)) ∙ is_plain old.0 no,
      )

-- Behind the address of the answer something was stored in the linkage: they are on their way as they were, whatever frames are made.
module _ (m : typed.Module) (k : Facts) (i : ℕ) (x : World) (busy : List ℕ) (n : ℕ) (f : typed.Function) (j : ℕ) (p : code.Process)
    (q : Process) (on : On m k i x busy n f j p q) (others : List Word) (to size : ℕ) (low : 20 ≤ to) (high : to + size ≤ 32)
    (changes : Changes q.frame.words others to size) (ranged : AreInRange others) where
  abbrev types : List Ty
  types = types_of m f

  passing_else : ElseAsWas q.frame.words others 0 linkage_bytes
  passing_else = record {
    each = λ w out. elim (low_or_high (4 * w) linkage_bytes) [
      | inl below ↦ absurd (out (omega arith, below))
      | inr above ↦ changes.words w (inr (omega (arith, high, above)))
    ];
  }

  passing_kind : AreOf (frame_bytes m.adts types (length p.frame.slots)) (frame_references m.adts types (length p.frame.slots)) others
  passing_kind =
      kinds_stay.all (frame_bytes m.adts types (length p.frame.slots)) (frame_references m.adts types (length p.frame.slots)) q.frame.words others
      on.words.kind changes.many changes.refer changes.referred ranged

  pub linked : (made : List Frame) → On m k i x busy n f (suc j) p (with_frames q (at_pc (with_words q.frame others) (suc q.frame.pc)) q.below made)
  linked made =
      let after = slots_change.linkage m.adts k x.heap q.frame.serial busy types on.known p.frame.variables p.frame.slots q.frame.words others on.words
      passing_else passing_kind in
      let at = on.pc in
      let answer = word_same q.frame.words others answer_place (changes.words 4 (inl (omega (arith, low)))) in
      record {
        process = on.process;
        there = on.there;
        code = on.code;
        answer = on.answer;
        many = on.many;
        instance = on.instance;
        formed = on.formed;
        known = on.known;
        words = after.0;
        mine = λ s b h. on.mine s b (subst (λ (o : ℕ → List ℕ). Has (o s) b) after.1 h);
        fresh = on.fresh;
        goes = on.goes;
        waits = all_wait m k i x Awaited p.frame.answer q.frame (at_pc (with_words q.frame others) (suc q.frame.pc)) p.below q.below refl answer on.waits;
        pc = omega (arith, at);
        spare = word_same q.frame.words others (spare_place m.adts types) (changes.words (spare_place m.adts types / 4) (inr (omega (arith, high)))) ∙ on.spare;
      }
