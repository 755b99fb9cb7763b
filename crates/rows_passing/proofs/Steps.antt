-- The instructions that move operands to the frame that is made: words up to the last that refers by their type, and bytes behind them.
use Rattle.std.proofs.Common.{◌≡◌, ℕ, ℤ, suc, pos, ◌+◌, ◌<◌, ◌≤◌, ◌/◌, ◌%◌, List, [], ◌∷◌, ◌++◌, length, map, drop, Some, inr, refl, sym, ap, ◌∙◌, subst, arith}
use Rattle.std.proofs.lemmas.Int.{ints}
use Rattle.std.specs.Prelude.{slice_get}
use Rattle.process_model.specs.Process.{Went}
use Rattle.process_ways.specs.Ways.{Way}
use Rattle.system_model.specs.Limits.{frames_limit}
use Rattle.limbo_types.specs.Types as ty
use Rattle.limbo_types.specs.Types.{Ty}
use Rattle.limbo_types.specs.View.{tys_of}
use Rattle.limbo_layout.specs.Layout.{Room}
use Rattle.limbo_values.specs.declared.number.Kind.TheVariants.{Int}
use Rattle.limbo_values.specs.Numbers.{InRange}
use Rattle.limbo_typed.specs.Typed as typed
use Rattle.limbo_typed.specs.Fitting as fitting
use Rattle.limbo_meaning.specs.Process.{Shared}
use Rattle.limbo_kept.specs.Trees.{Signature}
use Rattle.limbo_kept.specs.Modules.{signature_of}
use Rattle.core_code.specs.Code.{Instr, Call}
use Rattle.core_code.specs.Machine as code
use Rattle.core_typing.specs.Needs.{AllStandAs}
use Rattle.dis_isa.specs.declared.inst.Inst.{Inst}
use Rattle.dis_isa.specs.declared.inst.Middle.TheVariants as middle
use Rattle.dis_isa.specs.declared.inst.Operand as isa
use Rattle.dis_isa.specs.declared.inst.Operand.TheVariants as operand
use Rattle.dis_isa.specs.declared.op.Op.TheVariants as op
use Rattle.dis_meaning.specs.Words.{Word, Plain, Access, Found, ◌>>=◌, number_in}
use Rattle.dis_meaning.specs.Numbers.{number_at}
use Rattle.dis_meaning.specs.Process.{Frame, Process, at_pc, with_words, with_frames}
use Rattle.dis_meaning.specs.Places.{with_frame_words}
use Rattle.dis_memory.specs.Blocks.{World}
use Rattle.dis_memory.specs.Places.{memory, given_of}
use Rattle.dis_memory.specs.Step.{obey}
use Rattle.value_words.specs.Contents.{AreInRange}
use Rattle.value_words.specs.Facts.{Facts}
use Rattle.value_frames.specs.Frames.{linkage_bytes, passing_place, made_place, reference_place, row_of, frame_bytes, frame_references}
use Rattle.value_frames.specs.Types.{desc, AreOf}
use Rattle.value_frames.proofs.Replacing.{kinds_stay}
use Rattle.value_moves.specs.Operands.{inst, own, behind, size_middle}
use Rattle.value_moves.specs.Spots.{Leads, LeadsAndStores}
use Rattle.value_moves.specs.Writing.{Writes}
use Rattle.value_moves.proofs.Copying.{Readable}
use Rattle.value_moves.proofs.Leading.{spots_lead}
use Rattle.value_code.specs.Code.{code_of, last_end}
use Rattle.value_code.specs.Objects.{object_of}
use Rattle.value_code.proofs.Lists.{get_map}
use Rattle.number_effects.specs.Giving.{with_word, after}
use Rattle.number_effects.specs.Stepping.{on_next}
use Rattle.number_effects.proofs.Reading.{operands_are_read}
use Rattle.number_effects.proofs.Records.{words_move}
use Rattle.number_effects.proofs.Stepping.{steps_obey}
use Rattle.value_follows.specs.Stands.{types_of}
use Rattle.value_follows.specs.Sides.{sides, HoldTheSame}
use Rattle.value_follows.specs.Rows.{place, row_of as code_row, Base, site_of}
use Rattle.value_follows.proofs.Putting.{word_same}
use Rattle.value_follows.proofs.Several.{Next}
use Rattle.value_follows.proofs.Standing.{same_some}
use Rattle.rows_calling.proofs.OnTheWay.{On, row_here, reaches_it}
use Rattle.rows_calling.proofs.Linking.{linked}
use Rattle.rows_calling.proofs.Making.{made_words, made_stored}
use Rattle.rows_calling.proofs.Answering.{on_further}
use Rattle.rows_calling.proofs.Framing.{zero_frame}
use Rattle.rows_forming.proofs.Sizing.{passing_word}
use Rattle.rows_passing.specs.Rows.{ParametersPass}
use Rattle.rows_passing.proofs.Row.{front_even, front_within}
use Rattle.rows_passing.proofs.Lying.{HasRow, marked, readable, in_frame}
use Rattle.rows_passing.proofs.Moving.{typed_goes, bytes_go, both_written}
use Rattle.rows_passing.proofs.Together.{formed_is, StandInRow, parts_stand, all_as, same_row, in_tuple, front_back}
use Rattle.rows_passing.proofs.Passing.{IsTogether, together, same_box, whole, Passing, passing_by}
use Rattle.limbo_meaning.specs.Values.{Value, Parts, row}
use Rattle.value_words.specs.Stands as memory

module _ (m : typed.Module) (i : ℕ) (p : code.Process) (n : ℕ) (f : typed.Function) (t : Ty) (fn into a : ℕ)
    (here : slice_get p.frame.code p.frame.pc ≡ Some (Call t fn into (Some a))) (b : Base m) (pass : ParametersPass m) (g : typed.Function)
    (there : slice_get m.functions fn ≡ Some g) where
  abbrev pub instr : Instr
  instr = Call t fn into (Some a)

  abbrev pub r_at : ℕ
  r_at = reference_place m.adts (types_of m f) a

  -- the room of the parameters, up to the last word that refers, and the types behind them
  abbrev pub room : Room
  room = row_of m.adts g.of.args

  abbrev pub front : ℕ
  front = last_end room.references

  abbrev pub behind_args : List Ty
  behind_args = drop (length g.of.args) (types_of m g)

  pub first_types : g.of.args ++ behind_args ≡ types_of m g
  first_types =
      ap (λ (ts : List Ty). ts ++ behind_args) (sym (pass.first fn g there)) ∙ front_back m.adts (length g.of.args) (types_of m g)

  abbrev pub Now : (k : Facts) (x : World) (j : ℕ) (q : Process) (done : ℕ) → Type 0
  Now k x j q done = Passing m i p n f t fn into a here b g k x j q done

  -- operands stand as parameters
  pub as_args : (us : List Ty) (s : Signature) → slice_get (map signature_of m.functions) fn ≡ Some s → fitting.AllStand us s.takes
      → AllStandAs us g.of.args
  as_args us s e all =
      let same : s ≡ signature_of g = same_some s (signature_of g) (sym e ∙ get_map signature_of m.functions fn g there) in
      all_as m.adts us g.of.args (subst (λ (z : Signature). fitting.AllStand us z.takes) same all)

  -- what the operands' record has
  pub record Source (k : Facts) (us : List Ty) (values : List Value) (inner : List Word) : Type 0 where
    pub fits : AllStandAs us g.of.args
    pub same : row_of m.adts us ≡ room
    pub stand : StandInRow m.adts k inner 0 us values
    pub row : HasRow inner 0 room
    pub even : front % 4 ≡ 0
    pub within : front ≤ room.size

  module _ (k : Facts) (x : World) (busy : List ℕ) (j : ℕ) (q : Process) (on : On m k i x busy n f j p q)
      (s : IsTogether m k i x busy n f j p q on t fn a) where
    as_many : (us ws : List Ty) → AllStandAs ws us → length ws ≡ length us
    as_many [] [] h = refl
    as_many [] (w ∷ ws) h = absurd h
    as_many (u ∷ us) [] h = absurd h
    as_many (u ∷ us) (w ∷ ws) h = ap suc (as_many us ws h.1)

    pub whole_is : whole m i p n f t fn into a here k x busy j q on s ≡ Parts (row s.values)
    whole_is = formed_is m.adts s.us s.values (sym (as_many s.us s.ws s.so) ∙ s.forming.typed)

    pub source : Source k s.us s.values s.inner
    source =
        let fits = as_args s.us s.work.0 s.work.1 s.work.2 in
        let same = same_row m.adts s.us g.of.args fits in
        let stand = parts_stand m.adts k s.inner 0 s.us s.values
        (subst (λ (v : Value). memory.Stands m.adts k s.inner 0 (ty.Tuple (tys_of s.us)) v) whole_is s.forming.stands) in
        record {
          fits = fits;
          same = same;
          stand = stand;
          row = subst (λ (r : Room). HasRow s.inner 0 r) same (in_tuple m.adts s.us s.inner s.own.kind);
          even = subst (λ (r : Room). last_end r.references % 4 ≡ 0) same (front_even m.adts s.us stand.laid);
          within = subst (λ (r : Room). last_end r.references ≤ r.size) same (front_within m.adts s.us stand.laid);
        }

  module _ (k : Facts) (x : World) (j : ℕ) (q : Process) (done : ℕ) (s : Now k x j q done) where
    pub now_there : IsTogether m k i x [] n f j p q s.on t fn a
    now_there = together m i p n f t fn into a here k x [] j q s.on (λ e. e)

    abbrev zero : code.Frame
    zero = zero_frame m i p fn g t

    same_words : now_there.inner ≡ s.inner
    same_words = same_box m i p n f t fn into a here k x [] j q s.on now_there s.box s.inner s.box_is

    pub from : Source k now_there.us now_there.values s.inner
    from = subst (λ (ws : List Word). Source k now_there.us now_there.values ws) same_words (source k x [] j q s.on now_there)

    pub ranged_inner : AreInRange s.inner
    ranged_inner = subst AreInRange same_words now_there.own.kind.ranged

    -- the frame's words are still of its type
    pub kind_now : AreOf (frame_bytes m.adts (types_of m g) (length zero.slots)) (frame_references m.adts (types_of m g) (length zero.slots)) s.others
    kind_now =
        kinds_stay.all (frame_bytes m.adts (types_of m g) (length zero.slots)) (frame_references m.adts (types_of m g) (length zero.slots))
        s.frame.words s.others s.called.words.kind s.written.many s.written.refer s.written.referred
        (s.written.ranged ranged_inner s.called.words.kind.ranged)

    pub target_row : HasRow s.others linkage_bytes room
    target_row =
        in_frame m.adts g.of.args behind_args (length zero.slots) s.others
        (subst (λ (ts : List Ty). AreOf (frame_bytes m.adts ts (length zero.slots)) (frame_references m.adts ts (length zero.slots)) s.others)
        (sym first_types) kind_now)

    module _ (w : Shared) (hold : HoldTheSame m k i x p q) (worlds : (sides m).worlds k w x) where
      abbrev frame_now : Frame
      frame_now = with_words s.frame s.others

      abbrev pub process_then : List Word → Process
      process_then new = with_frames q (at_pc q.frame (suc q.frame.pc)) q.below (with_words s.frame new ∷ [])

      -- words are stored in it
      put_step : (it : Inst) → ((at : ℕ) → slice_get (code_of (site_of m n f p.frame.pc at) instr) j ≡ Some it) → (dst : isa.Operand) (to : ℕ)
          → (lead : LeadsAndStores x q dst s.others to (λ new. memory x (with_frame_words q s.frame.serial new))) → (new : List Word)
          → obey frames_limit (object_of m) x q it it.op ≡ after x q lead.0.place new → (more : ℕ)
          → Writes s.frame.words new linkage_bytes s.inner 0 more → suc j < (code_row m f p.frame.pc instr).size → (l : ℕ)
          → ((r : Process) → Now k x (suc j) r more → HoldTheSame m k i x p r → Way (sides m) (place m) l k i x p r) → Next m b i p l k w x q
      put_step it at dst to lead new obeys more written left l way =
          let step : (sides m).code.step x q ≡ Went x (process_then new) =
          steps_obey.stores frames_limit (object_of m ∷ []) x q (object_of m) it x lead.0.place new (memory x (with_frame_words q s.frame.serial new))
          (reaches_it m b i p q [] n f j k w x s.on hold worlds instr here it (at (row_here m b i p q [] n f j k w x s.on hold worlds instr here).at))
          obeys (lead.1 new)
          ∙ ap (λ (r : Process). Went x (on_next (memory x r))) (made_stored m k i x [] n f j p q s.on frame_now s.has new) in
          let now_so : Now k x (suc j) (process_then new) more = record {
            on = on_further m k i x [] n f j p q s.on (with_words s.frame new ∷ []);
            frame = s.frame;
            called = s.called;
            bare = s.bare;
            others = new;
            has = record { made = refl; address = s.has.address; newer = s.has.newer };
            box = s.box;
            inner = s.inner;
            box_is = record { word = s.box_is.word; there = s.box_is.there; free = s.box_is.free; made = s.box_is.made };
            written = written;
          } in
          passing_by m i p n f t fn into a here b g k w x j q (process_then new) done more s hold worlds left step now_so l (way (process_then new) now_so)

      frame_lead : (at : ℕ)
          → LeadsAndStores x q (behind made_place at) s.others (0 + at) (λ new. memory x (with_frame_words q s.frame.serial new))
      frame_lead at =
          spots_lead.frame x q made_place s.frame.serial 0 s.others at s.has.address (made_words m k i x [] n f j p q s.on frame_now s.has)

      source_lead : (at : ℕ) → Leads x q (behind r_at at) s.inner at
      source_lead at = (spots_lead.inner x q r_at s.box s.inner at s.box_is.word s.box_is.there).0

      -- ---- words by their type

      abbrev pub front_inst : ℕ → Inst
      front_inst type = inst op.Movmp (behind r_at 0) (middle.Imm (pos type)) (behind made_place linkage_bytes)

      pub front_step : done ≡ 0 → (type : ℕ) → slice_get (object_of m).types type ≡ Some (desc front room.references)
          → ((at : ℕ) → slice_get (code_of (site_of m n f p.frame.pc at) instr) j ≡ Some (front_inst type))
          → suc j < (code_row m f p.frame.pc instr).size → (l : ℕ)
          → ((r : Process) → Now k x (suc j) r front → HoldTheSame m k i x p r → Way (sides m) (place m) l k i x p r) → Next m b i p l k w x q
      front_step none type types at left l way =
          let c = from in
          let even = c.even in
          let within = c.within in
          let lead = frame_lead linkage_bytes in
          let goes = typed_goes frames_limit (object_of m) x q (behind r_at 0) (behind made_place linkage_bytes) s.inner s.others 0 linkage_bytes
          (source_lead 0) lead.0 front refl refl even room.references
          (λ l less. marked s.inner 0 room c.row l (omega (arith, less, within)))
          (λ l less. marked s.others linkage_bytes room target_row l (omega (arith, less, within))) type types in
          put_step (front_inst type) at (behind made_place linkage_bytes) linkage_bytes lead goes.0 goes.2 front
          (both_written s.frame.words s.others goes.0 linkage_bytes s.inner 0 0 front front (omega arith)
          (subst (λ (d : ℕ). Writes s.frame.words s.others linkage_bytes s.inner 0 d) none s.written) goes.1) left l way

      -- ---- bytes behind them

      abbrev pub rest_inst : (rest : ℕ) → Inst
      rest_inst rest = inst op.Movm (behind r_at front) (size_middle rest) (behind made_place (linkage_bytes + front))

      pub rest_step : done ≡ front → (rest : ℕ) → front + rest ≡ room.size → given_of Int x q (size_middle rest) ≡ Found (pos rest)
          → ((at : ℕ) → slice_get (code_of (site_of m n f p.frame.pc at) instr) j ≡ Some (rest_inst rest))
          → suc j < (code_row m f p.frame.pc instr).size → (l : ℕ)
          → ((r : Process) → Now k x (suc j) r room.size → HoldTheSame m k i x p r → Way (sides m) (place m) l k i x p r) → Next m b i p l k w x q
      rest_step so_far rest size given at left l way =
          let c = from in
          let even = c.even in
          let same : 0 + (linkage_bytes + front) ≡ linkage_bytes + front = omega arith in
          let lead = subst (λ (to : ℕ). LeadsAndStores x q (behind made_place (linkage_bytes + front)) s.others to
          (λ new. memory x (with_frame_words q s.frame.serial new))) same (frame_lead (linkage_bytes + front)) in
          let goes = bytes_go frames_limit (object_of m) x q (behind r_at front) (behind made_place (linkage_bytes + front)) s.inner s.others front
          (linkage_bytes + front) (source_lead front) lead.0 rest (size_middle rest) given
          (λ o less.
          let e : 0 + front + o ≡ front + o = omega arith in
          subst (Readable s.inner) e (readable s.inner 0 room c.row even o (omega (arith, less, size))))
          (λ o less. readable s.others linkage_bytes room target_row even o (omega (arith, less, size))) in
          let zero : 0 + front ≡ front = omega arith in
          put_step (rest_inst rest) at (behind made_place (linkage_bytes + front)) (linkage_bytes + front) lead goes.0 goes.2 room.size
          (both_written s.frame.words s.others goes.0 linkage_bytes s.inner 0 front rest room.size size
          (subst (λ (d : ℕ). Writes s.frame.words s.others linkage_bytes s.inner 0 d) so_far s.written)
          (subst (λ (d : ℕ). Writes s.others goes.0 (linkage_bytes + front) s.inner d rest) (sym zero) goes.1)) left l way

      -- ---- their number, where it stands in the frame

      rest_range : (rest : ℕ) (z : ℤ) → rest ≤ room.size → Plain (pos rest) ≡ Plain z → InRange Int z
      rest_range rest z small e =
          let same : pos rest ≡ z = cc in
          let all = pass.fit fn g there in
          let below = all.below in
          subst (InRange Int) same (record { above = omega (arith, ints); below = omega (arith, ints, below, small) })

      abbrev pub size_inst : (rest : ℕ) → Inst
      size_inst rest = inst op.Movw (operand.Imm (pos rest)) middle.None (own passing_place)

      abbrev pub sized_words : ℕ → List Word
      sized_words rest = with_word q.frame.words passing_place (Plain (pos rest))

      abbrev pub sized_process : ℕ → Process
      sized_process rest = with_frames q (at_pc (with_words q.frame (sized_words rest)) (suc q.frame.pc)) q.below q.made

      pub size_step : (rest : ℕ) → rest ≤ room.size
          → ((at : ℕ) → slice_get (code_of (site_of m n f p.frame.pc at) instr) j ≡ Some (size_inst rest))
          → suc j < (code_row m f p.frame.pc instr).size → (l : ℕ)
          → ((r : Process) → Now k x (suc j) r done → number_at Int r.frame.words (pos passing_place) ≡ Found (pos rest)
          → HoldTheSame m k i x p r → Way (sides m) (place m) l k i x p r) → Next m b i p l k w x q
      size_step rest small at left l way =
          let lead = (spots_lead.own x q passing_place).0 in
          let old = passing_word m.adts (types_of m f) (length p.frame.slots) q.frame.words s.on.words.kind in
          let stored = words_move.word frames_limit (object_of m) x q (size_inst rest) (Plain (pos rest)) q.frame.words passing_place lead old.0 refl
          (operands_are_read.source_plain_given x q (pos rest)) old.1 in
          let step : (sides m).code.step x q ≡ Went x (sized_process rest) =
          steps_obey.stores frames_limit (object_of m ∷ []) x q (object_of m) (size_inst rest) x lead.place (sized_words rest) _
          (reaches_it m b i p q [] n f j k w x s.on hold worlds instr here (size_inst rest)
          (at (row_here m b i p q [] n f j k w x s.on hold worlds instr here).at)) stored.1 ((spots_lead.own x q passing_place).1 (sized_words rest)) in
          let now_so : Now k x (suc j) (sized_process rest) done = record {
            on = linked m k i x [] n f j p q s.on (sized_words rest) passing_place 4 (omega arith) (omega arith) stored.0.changes
                (stored.0.ranged (λ z e. rest_range rest z small e) s.on.words.kind.ranged) q.made;
            frame = s.frame;
            called = s.called;
            bare = s.bare;
            others = s.others;
            has = record {
              made = s.has.made;
              address = word_same q.frame.words (sized_words rest) made_place (stored.0.changes.words 7 (inr (omega arith))) ∙ s.has.address;
              newer = s.has.newer;
            };
            box = s.box;
            inner = s.inner;
            box_is = record {
              word = word_same q.frame.words (sized_words rest) r_at (stored.0.changes.words (r_at / 4) (inr (omega arith))) ∙ s.box_is.word;
              there = s.box_is.there;
              free = s.box_is.free;
              made = s.box_is.made;
            };
            written = s.written;
          } in
          passing_by m i p n f t fn into a here b g k w x j q (sized_process rest) done done s hold worlds left step now_so l
          (way (sized_process rest) now_so (ap (λ (u : Access Word). u >>= number_in) stored.0.there))
