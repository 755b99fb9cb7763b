-- The size of a value goes into the frame's linkage, in front of the instruction that moves so many bytes.
use Rattle.std.proofs.Common.{◌≡◌, ℕ, ℤ, suc, pos, ◌+◌, ◌*◌, ◌/◌, ◌<◌, ◌≤◌, List, [], ◌∷◌, length, map, Option, Some, None}
use Rattle.std.proofs.Common.{refl, sym, ap, ◌∙◌, subst, arith, inl, inr}
use Rattle.std.proofs.lemmas.Int.{ints}
use Rattle.std.specs.Prelude.{slice_get}
use Rattle.std.specs.List.{range_with_len}
use Rattle.process_model.specs.Process.{Went}
use Rattle.system_model.specs.Limits.{frames_limit}
use Rattle.heap_model.specs.Facts.{IsUnmade}
use Rattle.heap_model.proofs.Growing.{grows_same}
use Rattle.limbo_types.specs.Types.{Ty}
use Rattle.limbo_layout.specs.Adts.{Def, Has}
use Rattle.limbo_layout.specs.Layout.{limit}
use Rattle.limbo_layout.proofs.Rooms.{has_cases}
use Rattle.limbo_values.specs.declared.number.Kind.TheVariants.{Int}
use Rattle.limbo_values.specs.Numbers.{InRange}
use Rattle.limbo_typed.specs.Typed as typed
use Rattle.limbo_meaning.specs.Process.{Shared}
use Rattle.core_code.specs.Machine as code
use Rattle.core_typing.specs.Held as held
use Rattle.dis_isa.specs.declared.inst.Inst.{Inst}
use Rattle.dis_isa.specs.declared.op.Op.TheVariants as op
use Rattle.dis_meaning.specs.Words.{Word, Plain, Refer, Address, Access, Found, ◌>>=◌, word_at, plain, number_in}
use Rattle.dis_meaning.specs.Process.{Process}
use Rattle.dis_memory.specs.Blocks.{World}
use Rattle.dis_memory.specs.Step.{obey}
use Rattle.value_words.specs.Facts.{Facts}
use Rattle.value_words.proofs.Blank.{mapped}
use Rattle.value_words.proofs.Bytes.{word_there}
use Rattle.value_words.proofs.Rows.{is_there}
use Rattle.value_frames.specs.Frames.{answer_place, passing_place, linkage_bytes, spare_place, reference_place, row_of, frame_bytes, frame_references, room_for}
use Rattle.value_frames.specs.Types.{AreOf}
use Rattle.value_frames.specs.Standing.{WordsAre}
use Rattle.value_frames.specs.Slots.{ElseAsWas}
use Rattle.value_frames.proofs.Slots.{slots_change}
use Rattle.value_frames.proofs.Replacing.{kinds_stay}
use Rattle.value_moves.specs.Operands.{own}
use Rattle.value_moves.specs.Spots.{Leads}
use Rattle.value_moves.proofs.Leading.{spots_lead}
use Rattle.value_moves.proofs.Changing.{low_or_high}
use Rattle.value_code.specs.Objects.{object_of}
use Rattle.number_effects.specs.Giving.{with_word, StoresWord}
use Rattle.number_effects.specs.Stepping.{Reaches}
use Rattle.number_effects.proofs.Reading.{operands_are_read}
use Rattle.number_effects.proofs.Records.{words_move}
use Rattle.number_effects.proofs.Stepping.{steps_obey}
use Rattle.value_follows.specs.Stands.{types_of, Awaited}
use Rattle.value_follows.specs.Sides.{sides}
use Rattle.value_follows.proofs.Putting.{word_same}
use Rattle.value_follows.proofs.Standing.{moved_on}
use Rattle.rows_dropping.proofs.Spare.{OnWay, Mine, Changed, way_then, other_mine}
use Rattle.rows_dropping.proofs.Moving.{HasSize, size, size_inst}

-- ---- the linkage has no words that refer

module _ (defs : List Def) (types : List Ty) (slots : ℕ) where
  none_below : (o : ℕ) → o < linkage_bytes → Has (frame_references defs types slots) o → ⊥
  none_below o l h =
      elim (has_cases (map (λ o. linkage_bytes + o) (row_of defs types).references)
      (spare_place defs types ∷ map (λ s. reference_place defs types s) (range_with_len 0 slots)) o h) [
        | inl there ↦
            let a = mapped (λ o. linkage_bytes + o) (row_of defs types).references o there in
            let e = a.2 in absurd (omega (arith, l, e))
        | inr (inl e) ↦ absurd (omega (arith, l, e))
        | inr (inr slot) ↦
            let a = mapped (λ s. reference_place defs types s) (range_with_len 0 slots) o slot in
            let e = a.2 in absurd (omega (arith, l, e))
      ]

is_plain : (w : Word) → ((r : Option ℕ) → w ≡ Refer r → ⊥) → plain w ≡ Found w
is_plain (Plain z) other = refl
is_plain (Refer r) other = absurd (other r refl)
is_plain (Address p a) other = refl

small_range : (n : ℕ) → n ≤ 4 * limit → InRange Int (pos n)
small_range n l = record { above = omega (arith, ints, l); below = omega (arith, ints, l) }

module _ (m : typed.Module) (i : ℕ) (p : code.Process) (known : held.Slots) (busy : List ℕ) (far : ℕ) (k : Facts) (x : World) (q : Process)
    (s : OnWay m i p known busy far k x q) (t : Ty) (small : (room_for m.adts t).size ≤ 4 * limit) where
  abbrev types : List Ty
  types = types_of m s.stands.is.function

  abbrev kind : AreOf (frame_bytes m.adts types (length p.frame.slots)) (frame_references m.adts types (length p.frame.slots)) q.frame.words
  kind = s.stands.is.words.kind

  abbrev pub move : Inst
  move = size_inst m.adts t

  abbrev pub number_then : Word
  number_then = Plain (pos (size m.adts t))

  abbrev pub words_then : List Word
  words_then = with_word q.frame.words passing_place number_then

  abbrev lead : Leads x q (own passing_place) q.frame.words passing_place
  lead = (spots_lead.own x q passing_place).0

  old_word : (w : Word) × (word_at q.frame.words (pos passing_place) >>= plain ≡ Found w)
  old_word =
      let many = kind.many in
      let old = is_there q.frame.words (passing_place / 4) (omega (arith, many)) in
      let no : (r : Option ℕ) → old.0 ≡ Refer r → ⊥ = λ r e.
      none_below m.adts types (length p.frame.slots) (4 * (passing_place / 4)) (omega arith)
      (kind.only (passing_place / 4) r (old.1 ∙ ap (λ (w : Word). Some w) e)) in
      (old.0, ap (λ (a : Access Word). a >>= plain) (word_there q.frame.words passing_place old.0 refl old.1) ∙ is_plain old.0 no)

  stores : StoresWord (obey frames_limit (object_of m) x q move op.Movw) x q lead.place q.frame.words passing_place number_then
  stores =
      words_move.word frames_limit (object_of m) x q move number_then q.frame.words passing_place lead old_word.0 refl
      (operands_are_read.source_plain_given x q (pos (size m.adts t))) old_word.1

  -- all words but that one are as they were
  pub same_word : (u : ℕ) → (u ≡ passing_place / 4 → ⊥) → slice_get words_then u ≡ slice_get q.frame.words u
  same_word u other = elim (low_or_high (4 * u) passing_place) [
    | inl low ↦ stores.0.changes.words u (inl (omega (arith, low)))
    | inr high ↦ elim (low_or_high (4 * u) (passing_place + 4)) [
      | inl within ↦ absurd (other (omega (arith, high, within)))
      | inr past ↦ stores.0.changes.words u (inr (omega (arith, past)))
    ]
  ]

  link_else : ElseAsWas q.frame.words words_then 0 linkage_bytes
  link_else = record { each = λ u no. same_word u (λ e. absurd (no (omega (arith, e), omega (arith, e)))) }

  in_range : (z : ℤ) → number_then ≡ Plain z → InRange Int z
  in_range z e = subst (InRange Int) (let f : pos (size m.adts t) ≡ z = cc in f) (small_range (size m.adts t) small)

  link_kind : AreOf (frame_bytes m.adts types (length p.frame.slots)) (frame_references m.adts types (length p.frame.slots)) words_then
  link_kind =
      kinds_stay.all (frame_bytes m.adts types (length p.frame.slots)) (frame_references m.adts types (length p.frame.slots)) q.frame.words words_then
      kind stores.0.changes.many stores.0.changes.refer stores.0.changes.referred (stores.0.ranged in_range kind.ranged)

  pub link_words : (after : WordsAre m.adts k x.heap q.frame.serial busy types s.stands.is.known p.frame.variables p.frame.slots words_then)
      × (after.own ≡ s.stands.is.words.own)
  link_words =
      slots_change.linkage m.adts k x.heap q.frame.serial busy types s.stands.is.known p.frame.variables p.frame.slots q.frame.words words_then
      s.stands.is.words link_else link_kind

  pub link_answer : word_at words_then (pos answer_place) ≡ word_at q.frame.words (pos answer_place)
  link_answer = word_same q.frame.words words_then answer_place (same_word (answer_place / 4) (λ e. absurd (omega (arith, e))))

  pub link_same : (at : ℕ) → linkage_bytes ≤ at → word_at words_then (pos at) ≡ word_at q.frame.words (pos at)
  link_same at l = word_same q.frame.words words_then at (same_word (at / 4) (λ e. absurd (omega (arith, e, l))))

  abbrev pub process_link : Process
  process_link = moved_on m k i x busy Awaited p q s.stands (suc q.frame.pc) words_then q.made

  pub link_steps : Reaches (object_of m ∷ []) x q (object_of m) move → (sides m).code.step x q ≡ Went x process_link
  link_steps reaches =
      steps_obey.stores frames_limit (object_of m ∷ []) x q (object_of m) move x lead.place words_then _ reaches stores.1
      ((spots_lead.own x q passing_place).1 words_then)

  pub has_size : HasSize m.adts t process_link
  has_size = ap (λ (a : Access Word). a >>= number_in) stores.0.there

  -- nothing of the heap changes
  module _ (w : Shared) (worlds : (sides m).worlds k w x) where
    link_unmade : IsUnmade k (length x.heap)
    link_unmade = worlds.0.unmade (length x.heap) (omega arith)

    pub not_new : (c : ℕ) → k.maker c ≡ Some i → c ≡ length x.heap → ⊥
    not_new c e g = let z : None ≡ Some i = sym link_unmade.maker ∙ (ap k.maker (sym g) ∙ e) in absurd cc

    pub link_change : Changed m i p s.stands.is.words.own q.frame.serial (length x.heap) k k x x
    link_change = record {
      grows = grows_same k;
      more = omega arith;
      keeps = λ c free e ne. (free, refl);
      facts = λ c ne. refl;
      apart = λ u h. not_new (length x.heap) (s.stands.is.mine u (length x.heap) h) refl;
      other = λ e. absurd (not_new (length x.heap) e refl);
    }

    abbrev pub way_link : OnWay m i p known busy (suc far) k x process_link
    way_link = way_then m i p known busy far k k x x q s (length x.heap) link_change busy words_then link_words.0 link_words.1 link_answer

    pub mine_link : (place : ℕ) (so_far : Facts → List Word → Type 0) → linkage_bytes ≤ place → Mine m i p s.stands.is.words.own place so_far k x q
        → Mine m i p way_link.stands.is.words.own place so_far k x process_link
    mine_link place so_far l c =
        other_mine m i p known busy far k k x x q s (length x.heap) link_change busy words_then link_words.0 link_words.1 link_answer place so_far
        (λ ws h. h) (link_same place l) c (not_new c.block c.made)
