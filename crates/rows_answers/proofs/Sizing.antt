-- The size of an answer comes into the frame's linkage, where it is too large for a middle.
use Rattle.std.proofs.Common.{◌≡◌, ℕ, ℤ, suc, pos, ◌+◌, ◌*◌, ◌/◌, ◌<◌, ◌≤◌, List, [], ◌∷◌, length, map, Option, Some, refl, sym, ap, ◌∙◌, subst, arith, inl, inr}
use Rattle.std.specs.Prelude.{slice_get}
use Rattle.std.specs.List.{range_with_len}
use Rattle.std.proofs.lemmas.Int.{ints}
use Rattle.limbo_types.specs.Types.{Ty}
use Rattle.limbo_layout.specs.Adts.{Def, Has}
use Rattle.limbo_layout.specs.Layout.{limit}
use Rattle.limbo_layout.proofs.Rooms.{has_cases}
use Rattle.limbo_values.specs.declared.number.Kind.TheVariants.{Int}
use Rattle.limbo_values.specs.Numbers.{InRange}
use Rattle.limbo_typed.specs.Typed as typed
use Rattle.limbo_meaning.specs.Process.{Shared}
use Rattle.system_model.specs.Limits.{frames_limit}
use Rattle.core_code.specs.Code.{Return}
use Rattle.core_code.specs.Machine as code
use Rattle.dis_isa.specs.declared.op.Op.TheVariants as op
use Rattle.dis_meaning.specs.Words.{Word, Plain, Refer, Address, Access, Found, ◌>>=◌, word_at, plain, number_in}
use Rattle.dis_meaning.specs.Process.{Process}
use Rattle.dis_memory.specs.Blocks.{World}
use Rattle.dis_memory.specs.Naming as machine
use Rattle.dis_memory.specs.Step.{obey}
use Rattle.value_words.specs.Facts.{Facts}
use Rattle.value_words.proofs.Blank.{mapped}
use Rattle.value_words.proofs.Bytes.{word_there}
use Rattle.value_words.proofs.Rows.{is_there}
use Rattle.value_frames.specs.Frames.{Nowhere, Boxed, form_of, answer_place, passing_place, linkage_bytes, spare_place, reference_place, row_of}
use Rattle.value_frames.specs.Frames.{frame_bytes, frame_references}
use Rattle.value_frames.specs.Types.{AreOf}
use Rattle.value_frames.specs.Standing.{WordsAre}
use Rattle.value_frames.specs.Slots.{ElseAsWas}
use Rattle.value_frames.specs.Later.{AreMadeBy}
use Rattle.value_frames.proofs.Slots.{slots_change}
use Rattle.value_frames.proofs.Replacing.{kinds_stay}
use Rattle.value_moves.specs.Spots.{Leads}
use Rattle.value_moves.specs.Operands.{own}
use Rattle.value_moves.proofs.Changing.{low_or_high}
use Rattle.value_moves.proofs.Leading.{spots_lead}
use Rattle.value_code.specs.Objects.{object_of, of_function, size_at}
use Rattle.value_code.specs.Code.{code_of}
use Rattle.number_effects.specs.Giving.{with_word, StoresWord}
use Rattle.number_effects.proofs.Reading.{operands_are_read}
use Rattle.number_effects.proofs.Records.{words_move}
use Rattle.number_effects.proofs.Stepping.{steps_obey}
use Rattle.value_follows.specs.Stands.{types_of, Awaited}
use Rattle.value_follows.specs.Sides.{sides, HoldTheSame}
use Rattle.value_follows.specs.Rows.{Base, RowStands, site_of}
use Rattle.value_follows.proofs.Putting.{word_same}
use Rattle.value_follows.proofs.Several.{Next, moved_to, moved_names, names_as, hold_as}
use Rattle.value_follows.proofs.Single.{nothing_changes}
use Rattle.value_follows.proofs.Standing.{all_wait}
use Rattle.rows_answers.proofs.OnTheWay.{On, reaches_first, further, goes_silently}
use Rattle.rows_answers.proofs.Boxing.{way_goes}
use Rattle.rows_answers.proofs.Typed.{HasPassing, sizing}

-- ---- the linkage has no words that refer

module _ (defs : List Def) (types : List Ty) (slots : ℕ) where
  none_below : (o : ℕ) → o < linkage_bytes → Has (frame_references defs types slots) o → ⊥
  none_below o l h =
      elim (has_cases (map (λ o. linkage_bytes + o) (row_of defs types).references)
      (spare_place defs types ∷ map (λ s. reference_place defs types s) (range_with_len 0 slots)) o h) [
        | inl there ↦
            let a = mapped (λ o. linkage_bytes + o) (row_of defs types).references o there in
            let e = a.2 in absurd (omega (arith, l, e))
        | inr (inl e) ↦ absurd (omega (arith, l, e))
        | inr (inr slot) ↦
            let a = mapped (λ s. reference_place defs types s) (range_with_len 0 slots) o slot in
            let e = a.2 in absurd (omega (arith, l, e))
      ]

is_plain : (w : Word) → ((r : Option ℕ) → w ≡ Refer r → ⊥) → plain w ≡ Found w
is_plain (Plain z) other = refl
is_plain (Refer r) other = absurd (other r refl)
is_plain (Address p a) other = refl

small_range : (n : ℕ) → n ≤ limit → InRange Int (pos n)
small_range n l = record { above = omega (arith, ints, l); below = omega (arith, ints, l) }

module _ (m : typed.Module) (b : Base m) (i : ℕ) (p : code.Process) (n : ℕ) (f : typed.Function) (from : Option ℕ)
    (there_so : slice_get m.functions n ≡ Some f)
    (in_code : slice_get (of_function m f).code p.frame.pc ≡ Some (Return from))
    (row : RowStands m n f p.frame.pc (Return from)) (some : form_of p.frame.answer ≡ Nowhere → ⊥) (form : form_of p.frame.answer ≡ Boxed)
    (size : ℕ) (small : size ≤ limit) (q : Process) where
  abbrev types : List Ty
  types = types_of m f

  abbrev pub sized_words : List Word
  sized_words = with_word q.frame.words passing_place (Plain (pos size))

  abbrev pub sized_process : Process
  sized_process = moved_to q (suc q.frame.pc) sized_words

  module _ (k : Facts) (w : Shared) (x : World) (on : On m k i x Awaited n f 0 p q) (hold : HoldTheSame m k i x p q)
      (worlds : (sides m).worlds k w x) where
    abbrev kind : AreOf (frame_bytes m.adts types (length p.frame.slots)) (frame_references m.adts types (length p.frame.slots)) q.frame.words
    kind = on.words.kind

    old_there : (w : Word) × (slice_get q.frame.words (passing_place / 4) ≡ Some w)
    old_there = let many = kind.many in is_there q.frame.words (passing_place / 4) (omega (arith, many))

    no_refer : (r : Option ℕ) → old_there.0 ≡ Refer r → ⊥
    no_refer r e =
        none_below m.adts types (length p.frame.slots) (4 * (passing_place / 4)) (omega arith)
        (kind.only (passing_place / 4) r (old_there.1 ∙ ap (λ (w : Word). Some w) e))

    abbrev lead : Leads x q (own passing_place) q.frame.words passing_place
    lead = (spots_lead.own x q passing_place).0

    stores : StoresWord (obey frames_limit (object_of m) x q (sizing size) op.Movw) x q lead.place q.frame.words passing_place (Plain (pos size))
    stores =
        words_move.word frames_limit (object_of m) x q (sizing size) (Plain (pos size)) q.frame.words passing_place lead old_there.0 refl
        (operands_are_read.source_plain_given x q (pos size))
        (ap (λ (a : Access Word). a >>= plain) (word_there q.frame.words passing_place old_there.0 refl old_there.1) ∙ is_plain old_there.0 no_refer)

    same_word : (u : ℕ) → (u ≡ passing_place / 4 → ⊥) → slice_get sized_words u ≡ slice_get q.frame.words u
    same_word u other = elim (low_or_high (4 * u) passing_place) [
      | inl low ↦ stores.0.changes.words u (inl (omega (arith, low)))
      | inr high ↦ elim (low_or_high (4 * u) (passing_place + 4)) [
        | inl within ↦ absurd (other (omega (arith, high, within)))
        | inr past ↦ stores.0.changes.words u (inr (omega (arith, past)))
      ]
    ]

    link_else : ElseAsWas q.frame.words sized_words 0 linkage_bytes
    link_else = record { each = λ u no. same_word u (λ e. absurd (no (omega (arith, e), omega (arith, e)))) }

    in_range : (z : ℤ) → Plain (pos size) ≡ Plain z → InRange Int z
    in_range z e = subst (InRange Int) (let g : pos size ≡ z = cc in g) (small_range size small)

    link_kind : AreOf (frame_bytes m.adts types (length p.frame.slots)) (frame_references m.adts types (length p.frame.slots)) sized_words
    link_kind =
        kinds_stay.all (frame_bytes m.adts types (length p.frame.slots)) (frame_references m.adts types (length p.frame.slots)) q.frame.words sized_words
        kind stores.0.changes.many stores.0.changes.refer stores.0.changes.referred (stores.0.ranged in_range kind.ranged)

    link_words : (after : WordsAre m.adts k x.heap q.frame.serial [] types on.known p.frame.variables p.frame.slots sized_words)
        × (after.own ≡ on.words.own)
    link_words =
        slots_change.linkage m.adts k x.heap q.frame.serial [] types on.known p.frame.variables p.frame.slots q.frame.words sized_words
        on.words link_else link_kind

    answer_same : word_at sized_words (pos answer_place) ≡ word_at q.frame.words (pos answer_place)
    answer_same = word_same q.frame.words sized_words answer_place (same_word (answer_place / 4) (λ e. absurd (omega (arith, e))))

    on_sized : On m k i x Awaited n f 1 p sized_process
    on_sized = record {
      process = on.process;
      there = on.there;
      code = on.code;
      answer = on.answer;
      many = on.many;
      instance = on.instance;
      formed = on.formed;
      known = on.known;
      words = link_words.0;
      mine = subst (λ (own : ℕ → List ℕ). AreMadeBy k i own) (sym link_words.1) on.mine;
      fresh = on.fresh;
      goes = on.goes;
      waits = all_wait m k i x Awaited p.frame.answer q.frame sized_process.frame p.below q.below refl answer_same on.waits;
      pc = (let e = on.pc in omega (arith, e));
      spare = word_same q.frame.words sized_words (spare_place m.adts types) (same_word (spare_place m.adts types / 4) (λ e. absurd (omega (arith, e))))
          ∙ on.spare;
      none_made = on.none_made;
    }

    names_so : (c : ℕ) → machine.names sized_process c ≡ machine.names q c
    names_so =
        moved_names q (suc q.frame.pc) sized_words
        (λ c. names_as c q.frame.words (passing_place / 4) old_there.0 (Plain (pos size)) old_there.1 no_refer (λ r e. absurd cc))

    has_passing : HasPassing size sized_process
    has_passing = ap (λ (a : Access Word). a >>= number_in) stores.0.there

    pub sizes : (l : ℕ) → slice_get (code_of (site_of m n f p.frame.pc row.at) (Return from)) 0 ≡ Some (sizing size)
        → 1 < size_at m f.of.answer (of_function m f) p.frame.pc (Some (Return from))
        → ((now : Facts) (v : Shared) (y : World) → On m now i y Awaited n f 1 p sized_process → HoldTheSame m now i y p sized_process
        → (sides m).worlds now v y → HasPassing size sized_process → Next m b i p l now v y sized_process)
        → Next m b i p (suc l) k w x q
    sizes l is within rest =
        let e = on.pc in
        goes_silently m b i p n f (Return from) row (suc l) k k w x x q sized_process
        (steps_obey.stores frames_limit (object_of m ∷ []) x q (object_of m) (sizing size) x lead.place sized_words _
        (reaches_first m b i p n f (Return from) row Awaited 0 q k w x on hold worlds (sizing size) is) stores.1
        ((spots_lead.own x q passing_place).1 sized_words))
        (nothing_changes m k i x) worlds
        (further m b i p n f (Return from) row there_so in_code refl 0 1 q sized_process (omega arith) within (omega (arith, e)) (omega (arith, e)))
        (way_goes m b i p n f Awaited 1 sized_process l k x on_sized
        (hold_as m b i p k x q sized_process (λ c. sym (names_so c)) hold)
        (λ now v y grows o h after. rest now v y o h after has_passing))
