-- Rows of several instructions: the other stands still while one of them does nothing but put a number into the frame, or the like.
use Rattle.std.proofs.Common.{◌≡◌, ℕ, ℤ, Bool, false, ◌&&◌, zero, suc, pos, ◌+◌, ◌*◌, ◌/◌, ◌<◌, ◌≤◌, List, [], ◌∷◌, length, map, Option, Some, None, refl, sym, ap, ◌∙◌, subst, arith, inl, inr}
use Rattle.std.proofs.Common.{if◌then◌else◌}
use Rattle.std.specs.Prelude.{slice_get, slice_index, nat_eq}
use Rattle.std.specs.List.{range_with_len}
use Rattle.process_model.specs.Process.{Went}
use Rattle.process_ways.specs.Ways.{Way}
use Rattle.limbo_types.specs.Types.{Ty}
use Rattle.limbo_layout.specs.Adts.{Def, Has}
use Rattle.limbo_layout.specs.Layout.{AllLaid}
use Rattle.limbo_layout.specs.Laying.{rooms_of}
use Rattle.limbo_layout.proofs.Rooms.{has_cases}
use Rattle.limbo_values.specs.declared.number.Kind.{Kind}
use Rattle.limbo_values.specs.declared.number.Kind.TheVariants as kind
use Rattle.limbo_typed.specs.Typed as typed
use Rattle.limbo_typed.specs.Fitting.{of_kind}
use Rattle.limbo_meaning.specs.Process.{Shared}
use Rattle.core_code.specs.Rooms.{rooms_in}
use Rattle.core_code.specs.Code.{Instr}
use Rattle.core_code.specs.Machine as code
use Rattle.dis_meaning.specs.Words.{Word, Plain, Refer, Address, Access, Found, ◌>>=◌, word_at, plain, or_wrong, type_check, number_in}
use Rattle.dis_meaning.specs.Numbers.{number_at, bytes_of}
use Rattle.dis_meaning.specs.Process.{Process}
use Rattle.dis_memory.specs.Blocks.{World}
use Rattle.value_words.specs.Contents.{AreInRange}
use Rattle.value_words.specs.Facts.{Facts}
use Rattle.value_words.proofs.Blank.{mapped}
use Rattle.value_words.proofs.Rows.{is_there}
use Rattle.value_words.proofs.Bytes.{word_there}
use Rattle.value_frames.specs.Frames.{AsNumber, form_of, linkage_bytes, answer_place, passing_place, spare_place}
use Rattle.value_frames.specs.Frames.{reference_place, frame_bytes, frame_references, row_of as all_room}
use Rattle.value_frames.specs.Types.{AreOf}
use Rattle.value_frames.specs.Slots.{ElseAsWas}
use Rattle.value_frames.proofs.Slots.{slots_change}
use Rattle.value_frames.proofs.Replacing.{kinds_stay}
use Rattle.value_moves.specs.Changing.{Changes, NumberStored}
use Rattle.value_moves.specs.Operands.{own}
use Rattle.value_moves.proofs.Leading.{spots_lead}
use Rattle.value_moves.proofs.Changing.{low_or_high, words_change}
use Rattle.value_code.specs.Objects.{object_of}
use Rattle.number_effects.specs.Giving.{StoresNumber}
use Rattle.number_effects.specs.Stepping.{Reaches}
use Rattle.number_effects.proofs.Stepping.{steps_obey}
use Rattle.block_effects.specs.Stored.{NumberThere}
use Rattle.dis_isa.specs.declared.inst.Inst.{Inst}
use Rattle.dis_memory.specs.Step.{obey}
use Rattle.system_model.specs.Limits.{frames_limit}
use Rattle.limbo_values.specs.Numbers.{InRange}
use Rattle.value_roots.specs.Accounts as accounts
use Rattle.value_roots.specs.Accounts.{to_nothing, Accounted}
use Rattle.value_follows.specs.Stands.{types_of, Awaited}
use Rattle.value_follows.specs.Sides.{sides, HoldTheSame}
use Rattle.value_follows.specs.Rooted.{BusyLead, PlaceAccounted, AreAccounted}
use Rattle.value_follows.specs.Rows.{place, rank, is_tidied, row_of, Base, AreThere}
use Rattle.value_follows.proofs.Putting.{word_same}
use Rattle.value_follows.proofs.Several.{Next, moved_to, goes_silently}
use Rattle.value_follows.proofs.Standing.{all_wait}
use Rattle.value_follows.proofs.Paces.{places_are}
use Rattle.rows_texts.proofs.OnTheWay.{On, stands, row_code, rank_here}

-- ---- the word for numbers on their way

-- a word that doesn't refer is plain
is_plain : (w : Word) → ((r : Option ℕ) → w ≡ Refer r → ⊥) → plain w ≡ Found w
is_plain (Plain z) none = refl
is_plain (Refer r) none = absurd (none r refl)
is_plain (Address at to) none = refl

has_number : (w : Word) → ((r : Option ℕ) → w ≡ Refer r → ⊥) → (z : ℤ) × (number_in w ≡ Found z)
has_number (Plain z) none = (z, refl)
has_number (Refer r) none = absurd (none r refl)
has_number (Address at to) none = (pos 0, refl)

module _ (defs : List Def) (types : List Ty) (n : ℕ) (words : List Word) (laid : AllLaid defs types (rooms_of (rooms_in defs) types))
    (are : AreOf (frame_bytes defs types n) (frame_references defs types n) words) where
  -- references lie behind the linkage
  behind_linkage : (o : ℕ) → Has (frame_references defs types n) o → linkage_bytes ≤ o
  behind_linkage o h = elim (has_cases (map (λ o. linkage_bytes + o) (all_room defs types).references)
      (spare_place defs types ∷ map (λ s. reference_place defs types s) (range_with_len 0 n)) o h) [
        | inl i ↦ let a = mapped (λ o. linkage_bytes + o) (all_room defs types).references o i in let f = a.2 in omega (arith, f)
        | inr (inl f) ↦ omega (arith, f)
        | inr (inr i) ↦ let a = mapped (λ s. reference_place defs types s) (range_with_len 0 n) o i in let f = a.2 in omega (arith, f)
      ]

  pub record PassingWord : Type 0 where
    pub old : Word
    pub there : slice_get words 5 ≡ Some old
    pub no_refer : (r : Option ℕ) → old ≡ Refer r → ⊥
    pub plainly : word_at words (pos passing_place) >>= plain ≡ Found old
    pub number : (u : Kind) → form_of (of_kind u) ≡ AsNumber → (z : ℤ) × (number_at u words (pos passing_place) ≡ Found z)

  number_read : (u : Kind) → form_of (of_kind u) ≡ AsNumber → (w : Word) → slice_get words 5 ≡ Some w → ((r : Option ℕ) → w ≡ Refer r → ⊥)
      → (z : ℤ) × (number_at u words (pos passing_place) ≡ Found z)
  number_read kind.Byte form w e none =
      let z = has_number w none in (
        pos (slice_index (bytes_of z.0) 0),
        ap (λ (a : Access ℤ). a >>= λ y. Found (pos (slice_index (bytes_of y) 0)))
            (ap (λ (o : Option Word). or_wrong type_check o >>= number_in) e ∙ z.1),
      )
  number_read kind.Int form w e none =
      let z = has_number w none in (z.0, ap (λ (a : Access Word). a >>= number_in) (word_there words passing_place w refl e) ∙ z.1)
  number_read kind.Big form w e none = absurd cc

  pub passing_word : PassingWord
  passing_word =
      let many = are.many in
      let old = is_there words 5 (omega (arith, many)) in
      let no : (r : Option ℕ) → old.0 ≡ Refer r → ⊥ = λ r e.
      let low = behind_linkage 20 (are.only 5 r (old.1 ∙ ap (λ (w : Word). Some w) e)) in absurd (omega (arith, low)) in
      record {
        old = old.0;
        there = old.1;
        no_refer = no;
        plainly = ap (λ (a : Access Word). a >>= plain) (word_there words passing_place old.0 refl old.1) ∙ is_plain old.0 no;
        number = λ u form. number_read u form old.0 old.1 no;
      }

-- ---- two that are on their way are so at the next instruction

module _ (m : typed.Module) (k : Facts) (i : ℕ) (x : World) (busy : List ℕ) (n : ℕ) (f : typed.Function) (j : ℕ) (p : code.Process)
    (q : Process) (on : On m k i x busy n f j p q) where
  -- where a number was put into the frame that is on its way
  module _ (others : List Word) (size : ℕ) (small : size ≤ 8) (changes : Changes q.frame.words others passing_place size) (ranged : AreInRange others) where
    abbrev types : List Ty
    types = types_of m f

    passing_else : ElseAsWas q.frame.words others 0 linkage_bytes
    passing_else = record {
      each = λ w out. elim (low_or_high (4 * w) linkage_bytes) [
        | inl low ↦ absurd (out (omega arith, low))
        | inr high ↦ changes.words w (inr (omega (arith, small, high)))
      ];
    }

    passing_kind : AreOf (frame_bytes m.adts types (length p.frame.slots)) (frame_references m.adts types (length p.frame.slots)) others
    passing_kind =
        kinds_stay.all (frame_bytes m.adts types (length p.frame.slots)) (frame_references m.adts types (length p.frame.slots)) q.frame.words others
        on.words.kind changes.many changes.refer changes.referred ranged

    pub passed : On m k i x busy n f (suc j) p (moved_to q (suc q.frame.pc) others)
    passed =
        let after = slots_change.linkage m.adts k x.heap q.frame.serial busy types on.known p.frame.variables p.frame.slots q.frame.words others on.words
        passing_else passing_kind in
        let at = on.pc in
        let answer = word_same q.frame.words others answer_place (changes.words 4 (inl (omega arith))) in
        record {
          process = on.process;
          there = on.there;
          code = on.code;
          answer = on.answer;
          many = on.many;
          instance = on.instance;
          formed = on.formed;
          known = on.known;
          words = after.0;
          mine = λ s b h. on.mine s b (subst (λ (o : ℕ → List ℕ). Has (o s) b) after.1 h);
          fresh = on.fresh;
          goes = on.goes;
          waits = all_wait m k i x Awaited p.frame.answer q.frame (moved_to q (suc q.frame.pc) others).frame p.below q.below refl answer on.waits;
          pc = omega (arith, at);
          spare = word_same q.frame.words others (spare_place m.adts types) (changes.words (spare_place m.adts types / 4) (inr (omega (arith, small)))) ∙ on.spare;
          none_made = on.none_made;
        }

module _ (m : typed.Module) (b : Base m) (i : ℕ) (p : code.Process) (n : ℕ) (f : typed.Function) where
  -- they hold the same where what is on its way is accounted for
  pub on_holds : (k : Facts) (w : Shared) (x : World) (busy : List ℕ) (j : ℕ) (q : Process) → (on : On m k i x busy n f j p q)
      → (sides m).worlds k w x → AreThere m x q
      → ((s : ℕ) → Has busy s → PlaceAccounted m k i x (code.process_names p) q.frame (reference_place m.adts (types_of m f) s))
      → BusyLead m k i x busy p q → HoldTheSame m k i x p q
  on_holds k w x busy j q on worlds live accounted lead =
      b.holds_on_way k i w x busy Awaited p q (stands m k i x busy n f j p q on) worlds live
      (record {
        slots = accounted;
        spare = λ r e. subst (λ (o : Option ℕ). Accounted k i x.heap (code.process_names p) (Refer o)) (same_refer r (sym on.spare ∙ e)) to_nothing;
        made = subst (λ fs. AreAccounted m k i x (code.process_names p) (accounts.all_words fs)) (sym on.none_made) accounts.none;
        answer = tt;
      })
      lead
    where
      same_refer : (r : Option ℕ) → ◌≡◌ {A = Access Word} (Found (Refer None)) (Found (Refer r)) → None ≡ r
      same_refer r e = cc

  rank_plain : (instr : Instr) (j : ℕ) → is_tidied instr ≡ false → rank (row_of m f p.frame.pc instr) j ≡ 2 + j
  rank_plain instr zero e = refl
  rank_plain instr (suc j) e =
      ap (λ (c : Bool). if c && nat_eq (suc (suc j)) (row_of m f p.frame.pc instr).size then 1 else 2 + suc j) e

  -- The other stands still while the machine's process goes to a later instruction of the row, and they hold the same then.
  pub goes_over : (k : Facts) (w : Shared) (x : World) (busy later : List ℕ) (j to : ℕ) (q r : Process) → (on : On m k i x busy n f j p q)
      → HoldTheSame m k i x p q → (sides m).worlds k w x → (instr : Instr) → slice_get p.frame.code p.frame.pc ≡ Some instr
      → is_tidied instr ≡ false → j < to → to < (row_of m f p.frame.pc instr).size → (sides m).code.step x q ≡ Went x r
      → (after : On m k i x later n f to p r) → HoldTheSame m k i x p r → (l : ℕ) → Way (sides m) (place m) l k i x p r
      → Next m b i p l k w x q
  goes_over k w x busy later j to q r on hold worlds instr here plain more within step after held l way =
      let before = rank_here m b i p q busy n f j k w x on hold worlds instr here (omega (arith, more, within)) ∙ rank_plain instr j plain in
      let behind = (places_are m).ranked n f p.frame.pc instr to r after.there (row_code m k i x later n f to p r after instr here) within after.pc
      ∙ rank_plain instr to plain in
      goes_silently m b i p l k w x q r step worlds (omega (arith, before, behind, more)) way

  -- So it is at the next one where what is on its way is accounted for.
  pub goes_by : (k : Facts) (w : Shared) (x : World) (busy later : List ℕ) (j : ℕ) (q r : Process) → (on : On m k i x busy n f j p q)
      → HoldTheSame m k i x p q → (sides m).worlds k w x → (instr : Instr) → slice_get p.frame.code p.frame.pc ≡ Some instr
      → is_tidied instr ≡ false → suc j < (row_of m f p.frame.pc instr).size → (sides m).code.step x q ≡ Went x r
      → (after : On m k i x later n f (suc j) p r)
      → ((s : ℕ) → Has later s → PlaceAccounted m k i x (code.process_names p) r.frame (reference_place m.adts (types_of m f) s))
      → BusyLead m k i x later p r → (l : ℕ)
      → (HoldTheSame m k i x p r → Way (sides m) (place m) l k i x p r)
      → Next m b i p l k w x q
  goes_by k w x busy later j q r on hold worlds instr here plain more step after accounted lead l way =
      let live = b.there_again x x q r step worlds.0.closed (λ n h. hold.same.live n (hold.same.roots n h)) in
      let held = on_holds k w x later (suc j) r after worlds live accounted lead in
      goes_over k w x busy later j (suc j) q r on hold worlds instr here plain (omega arith) more step after held l (way held)

  -- So it is where that instruction puts an int into the frame that is on its way.
  pub number_passes : (k : Facts) (w : Shared) (x : World) (j : ℕ) (q : Process) → (on : On m k i x [] n f j p q) → HoldTheSame m k i x p q
      → (sides m).worlds k w x → (instr : Instr) → slice_get p.frame.code p.frame.pc ≡ Some instr → is_tidied instr ≡ false
      → suc j < (row_of m f p.frame.pc instr).size → (inst : Inst) → Reaches (object_of m ∷ []) x q (object_of m) inst
      → (z : ℤ) → InRange kind.Int z
      → StoresNumber (obey frames_limit (object_of m) x q inst inst.op) x q (spots_lead.own x q passing_place).0.place kind.Int q.frame.words passing_place z
      → (l : ℕ)
      → ((r : Process) → On m k i x [] n f (suc j) p r → number_at kind.Int r.frame.words (pos passing_place) ≡ Found z → HoldTheSame m k i x p r
      → Way (sides m) (place m) l k i x p r)
      → Next m b i p l k w x q
  number_passes k w x j q on hold worlds instr here plain more inst is z range stores l way =
      let lead = spots_lead.own x q passing_place in
      let others = stores.0.others in
      let r = moved_to q (suc q.frame.pc) others in
      let after = passed m k i x [] n f j p q on others 4 (omega arith) (stores.0.changes (λ e. range)) (stores.0.ranged range on.words.kind.ranged) in
      goes_by k w x [] [] j q r on hold worlds instr here plain more
      (steps_obey.stores frames_limit (object_of m ∷ []) x q (object_of m) inst x lead.0.place others _ is stores.1 (lead.1 others))
      after (λ s h. absurd h) (λ s o h. absurd h) l (way r after (stores.0.there range))

-- an int may be put there
module _ (m : typed.Module) (k : Facts) (i : ℕ) (x : World) (n : ℕ) (f : typed.Function) (j : ℕ) (p : code.Process) (q : Process)
    (on : On m k i x [] n f j p q) where
  pub passing_old : (z : ℤ) × (number_at kind.Int q.frame.words (pos passing_place) ≡ Found z)
  passing_old = (passing_word m.adts (types_of m f) (length p.frame.slots) q.frame.words on.words.laid on.words.kind).number kind.Int refl

  abbrev pub passing_there : NumberThere x q kind.Int (own passing_place)
  passing_there =
      record { words = q.frame.words; byte = passing_place; leads = (spots_lead.own x q passing_place).0; old = passing_old.0; stands = passing_old.1 }

  pub passing_stored : (z : ℤ) → NumberStored kind.Int q.frame.words passing_place z
  passing_stored z = words_change.number kind.Int q.frame.words passing_place passing_old.0 z passing_old.1
