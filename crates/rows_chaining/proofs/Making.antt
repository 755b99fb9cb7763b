-- The first instruction of a region that is kept: a new record of the chain, to which the spare word refers.
use Rattle.std.proofs.Common.{◌≡◌, ℕ, Bool, true, false, zero, suc, pos, ◌+◌, ◌*◌, ◌/◌, ◌%◌, ◌<◌, List, [], ◌∷◌, Option, Some, None, refl, sym, ◌∙◌, subst, arith, inl, inr, if◌then◌else◌}
use Rattle.std.specs.Prelude.{slice_get}
use Rattle.std.specs.List.{range_with_len}
use Rattle.process_model.specs.Process.{Went}
use Rattle.process_ways.specs.Ways.{Way}
use Rattle.process_ways.proofs.On.{silent}
use Rattle.heap_model.specs.Heap.{at}
use Rattle.heap_model.specs.Facts.{Fact, IsFree}
use Rattle.heap_model.proofs.Alike.{is_inner}
use Rattle.heap_model.proofs.Heap.{there_of, within}
use Rattle.limbo_types.specs.Types.{Ty}
use Rattle.limbo_layout.specs.Adts.{Has}
use Rattle.limbo_typed.specs.Typed as typed
use Rattle.limbo_meaning.specs.Process.{Shared}
use Rattle.system_model.specs.Limits.{frames_limit}
use Rattle.core_code.specs.Code.{Instr, Keep}
use Rattle.core_code.specs.Machine as code
use Rattle.dis_isa.specs.declared.inst.Inst.{Inst}
use Rattle.dis_isa.specs.declared.inst.Middle.TheVariants as middle
use Rattle.dis_isa.specs.declared.inst.Operand.TheVariants as operand
use Rattle.dis_isa.specs.declared.op.Op.TheVariants as op
use Rattle.dis_file.specs.declared.types.TypeDesc.{TypeDesc}
use Rattle.dis_file.specs.References.{marks}
use Rattle.dis_meaning.specs.Words.{Word, Plain, Refer, Access, Found, blank, blanks}
use Rattle.dis_meaning.specs.Process.{Process}
use Rattle.dis_memory.specs.Blocks.{Block, Record, World, next_serial}
use Rattle.dis_memory.specs.Step.{obey}
use Rattle.value_words.specs.Forms.{OwnedBy}
use Rattle.value_words.specs.Facts.{Facts}
use Rattle.value_roots.specs.Accounts.{Accounted, to_inner}
use Rattle.value_frames.specs.Frames.{spare_place, turn_bytes, turn_references}
use Rattle.value_frames.specs.Types.{desc, AreOf}
use Rattle.value_frames.proofs.Beginning.{frames_begin}
use Rattle.value_frames.proofs.Later.{frames_later}
use Rattle.value_moves.specs.Operands.{inst, own}
use Rattle.value_moves.specs.Spots.{Leads}
use Rattle.value_moves.proofs.Leading.{spots_lead}
use Rattle.value_code.specs.Data.{OfTurn}
use Rattle.value_code.specs.Objects.{object_of, type_number}
use Rattle.value_code.proofs.Having.{objects_have}
use Rattle.number_effects.specs.Giving.{StoresWord}
use Rattle.number_effects.proofs.Records.{words_move}
use Rattle.number_effects.proofs.Stepping.{steps_obey}
use Rattle.block_effects.proofs.Giving.{stores_behind}
use Rattle.value_follows.specs.Stands.{types_of}
use Rattle.value_follows.specs.Sides.{sides, HoldTheSame}
use Rattle.value_follows.specs.Rows.{place, Base}
use Rattle.value_follows.proofs.Paces.{places_are}
use Rattle.value_follows.proofs.RootedSlots.{in_range}
use Rattle.value_follows.proofs.RootedValues.{has_at, each_accounted}
use Rattle.value_follows.proofs.Several.{Next as Goes}
use Rattle.value_words.proofs.Blank.{mapped}
use Rattle.rows_dropping.proofs.Spare.{OnWay, Changed}
use Rattle.rows_dropping.proofs.Making.{with_new, making, new_is, unmade, new_made, new_formed, new_changed, new_worlds, new_changes, holds}
use Rattle.rows_dropping.proofs.Sparing.{with_spare, spare_words, spare_process, spare_way}
use Rattle.rows_lists.proofs.OnTheWay.{On, stands, reaches_it, rank_here}
use Rattle.rows_lists.proofs.Needing.{row_is}
use Rattle.rows_chaining.proofs.Over.{Over}

-- ---- the words of a new record of a chain

blanks_bare : (d : TypeDesc) (from count : ℕ) (b : ℕ) → Has (blanks d from count) (Refer (Some b)) → ⊥
blanks_bare d from zero b h = h
blanks_bare d from (suc n) b (inl e) = go (marks d.map from) e
  where
    go : (h : Bool) → (if h then Refer None else Plain (pos 0)) ≡ Refer (Some b) → ⊥
    go true e = cc
    go false e = cc
blanks_bare d from (suc n) b (inr h) = blanks_bare d (suc from) n b h

abbrev pub turn_desc : (slots : ℕ) → TypeDesc
turn_desc n = desc (turn_bytes n) (turn_references n)

abbrev pub turn_words : (slots : ℕ) → List Word
turn_words n = blank (turn_desc n)

pub turn_bare : (n b : ℕ) → Has (turn_words n) (Refer (Some b)) → ⊥
turn_bare n b h = blanks_bare (turn_desc n) 0 (turn_bytes n / 4) b h

pub turn_kind : (n : ℕ) → AreOf (turn_bytes n) (turn_references n) (turn_words n)
turn_kind n = frames_begin.kind (turn_bytes n) (turn_references n) (omega arith) at
  where
    at : (o : ℕ) → Has (turn_references n) o → (o % 4 ≡ 0) × (o < turn_bytes n)
    at o (inl e) = (omega (arith, e), omega (arith, e))
    at o (inr (inl e)) = (omega (arith, e), omega (arith, e))
    at o (inr (inr h)) =
        let a = mapped (λ s. 8 + 8 * s + 4) (range_with_len 0 n) o h in
        let r = in_range 0 n a.0 a.1 in
        let e = a.2 in
        let d = r.1 in
        let l = r.2 in
        (omega (arith, e), omega (arith, e, d, l))

module _ (m : typed.Module) (b : Base m) (loop from words i : ℕ) (p : code.Process) (n : ℕ) (f : typed.Function)
    (here : slice_get p.frame.code p.frame.pc ≡ Some (Keep loop from words)) where
  abbrev it : Instr
  it = Keep loop from words

  abbrev types : List Ty
  types = types_of m f

  abbrev spare_at : ℕ
  spare_at = spare_place m.adts types

  -- A record that was made on the way: the spare word refers to it, and it is younger than all that slots have.
  pub record Fresh (busy : List ℕ) (j : ℕ) (c : ℕ) (inner : List Word) (k : Facts) (x : World) (q : Process) : Type 0 where
    pub over : Over m k i x busy n f j (Some c) p q
    pub there : at x.heap c ≡ Some (Record inner)
    pub unknown : k.fact c ≡ None
    pub made : k.maker c ≡ Some i
    pub formed : k.form c ≡ Some (OwnedBy q.frame.serial)
    pub older : (s d : ℕ) → Has (over.words.own s) d → d < c

  module _ (k : Facts) (w : Shared) (x : World) (q : Process) (on : On m k i x [] n f 0 p q) (hold : HoldTheSame m k i x p q)
      (worlds : (sides m).worlds k w x) where
    abbrev s : OnWay m i p on.known [] 0 k x q
    s = record { stands = stands m k i x [] n f 0 p q on; known_so = refl; none_made = on.none_made; pc = on.pc }

    abbrev type : ℕ
    type = type_number m (OfTurn words)

    typed_so : slice_get (object_of m).types type ≡ Some (turn_desc words)
    typed_so = objects_have.types m n f p.frame.pc it (OfTurn words) on.there (row_is m k i x [] n f 0 p q on it here) (inl refl)

    abbrev new_inst : Inst
    new_inst = inst op.New (operand.Imm (pos type)) middle.None (own spare_at)

    abbrev world_then : World
    world_then = with_new m i k w x q.frame.serial (turn_words words) worlds (turn_bare words)

    abbrev facts_then : Facts
    facts_then = making m i k w x q.frame.serial (turn_words words) worlds (turn_bare words)

    abbrev lead : Leads x q (own spare_at) q.frame.words spare_at
    lead = (spots_lead.own x q spare_at).0

    stores : StoresWord (obey frames_limit (object_of m) x q new_inst op.New) world_then q lead.place q.frame.words spare_at (Refer (Some (next_serial x)))
    stores =
        words_move.new frames_limit (object_of m) x q new_inst type (turn_desc words) q.frame.words spare_at lead None (inl refl) refl typed_so on.spare

    change_then : Changed m i p s.stands.is.words.own q.frame.serial (next_serial x) k facts_then x world_then
    change_then = new_changed m i k w x q.frame.serial (turn_words words) worlds (turn_bare words) p s.stands.is.words.own s.stands.is.mine

    abbrev process_then : Process
    process_then = spare_process m i p on.known [] 0 k x q s (Some (next_serial x)) stores.0 facts_then world_then (next_serial x) change_then

    abbrev way_then : OnWay m i p on.known [] 1 facts_then world_then process_then
    way_then = spare_way m i p on.known [] 0 k x q s (Some (next_serial x)) stores.0 facts_then world_then (next_serial x) change_then

    goes_then : (sides m).code.step x q ≡ Went world_then process_then
    goes_then =
        steps_obey.stores frames_limit (object_of m ∷ []) x q (object_of m) new_inst world_then lead.place
        (with_spare m i p on.known [] 0 k x q s (Some (next_serial x)) stores.0) _
        (reaches_it m b i p q [] n f 0 k w x on hold worlds it here new_inst refl) stores.1
        (stores_behind x q (Record (turn_words words)) lead.place (with_spare m i p on.known [] 0 k x q s (Some (next_serial x)) stores.0) _
        ((spots_lead.own x q spare_at).1 (with_spare m i p on.known [] 0 k x q s (Some (next_serial x)) stores.0)))

    fresh : Fresh [] 1 (next_serial x) (turn_words words) facts_then world_then process_then
    fresh = record {
      over = record {
        process = way_then.stands.number;
        there = on.there;
        code = on.code;
        answer = on.answer;
        many = on.many;
        instance = way_then.stands.is.instance;
        formed = way_then.stands.is.formed;
        known = on.known;
        words = way_then.stands.is.words;
        mine = way_then.stands.is.mine;
        fresh = way_then.stands.is.fresh;
        goes = on.goes;
        waits = way_then.stands.waits;
        pc = way_then.pc;
        spare = stores.0.there;
        none_made = on.none_made;
      };
      there = new_is m i k w x q.frame.serial (turn_words words) worlds (turn_bare words);
      unknown = (unmade m i k w x q.frame.serial (turn_words words) worlds (turn_bare words)).fact;
      made = new_made m i k w x q.frame.serial (turn_words words) worlds (turn_bare words);
      formed = new_formed m i k w x q.frame.serial (turn_words words) worlds (turn_bare words);
      older = λ u d h.
          let owned = (frames_later m.adts k x.heap q.frame.serial [] types on.known p.frame.variables p.frame.slots q.frame.words s.stands.is.words).owned u d
          (subst (λ (o : ℕ → List ℕ). Has (o u) d)
          (spare_words m i p on.known [] 0 k x q s (Some (next_serial x)) stores.0 facts_then world_then (next_serial x) change_then).1 h) in
          within x.heap d (there_of (at x.heap d) (Record owned.1.0) owned.1.1);
    }

    worlds_then : (sides m).worlds facts_then w world_then
    worlds_then = new_worlds m i k w x q.frame.serial (turn_words words) worlds (turn_bare words)

    account_then : Accounted facts_then i world_then.heap (code.process_names p) (Refer (Some (next_serial x)))
    account_then =
        to_inner (next_serial x) (Record (turn_words words))
        (is_inner (facts_then.fact (next_serial x)) (subst (λ (o : Option (Fact Block)). IsFree o) (sym fresh.unknown) tt)) fresh.there
        (λ u. fresh.made)
        (each_accounted facts_then i world_then.heap (code.process_names p) (turn_words words)
        (λ j d e. absurd (turn_bare words d (has_at (turn_words words) j (Refer (Some d)) e))))

    hold_then : HoldTheSame m facts_then i world_then p process_then
    hold_then =
        holds m i p facts_then world_then process_then b w on.known [] 1 way_then worlds_then
        (b.there_again x world_then q process_then goes_then worlds.0.closed (λ n h. hold.same.live n (hold.same.roots n h)))
        (λ u h. absurd h)
        (λ r e.
        let z : ◌≡◌ {A = Access Word} (Found (Refer (Some (next_serial x)))) (Found (Refer r)) = sym stores.0.there ∙ e in
        let same : Some (next_serial x) ≡ r = cc in
        subst (λ o. Accounted facts_then i world_then.heap (code.process_names p) (Refer o)) same account_then)
        (λ u c h. absurd h)

    -- A new record is made.
    pub makes : (l : ℕ) → ((now : Facts) (y : World) (c : ℕ) (r : Process) → Fresh [] 1 c (turn_words words) now y r → HoldTheSame m now i y p r
        → Way (sides m) (place m) l now i y p r)
        → Goes m b i p l k w x q
    makes l way =
        let low : place m q ≡ 2 = rank_here m b i p q [] n f 0 k w x on hold worlds it here (omega arith) in
        let high : place m process_then ≡ 3 =
        (places_are m).ranked n f p.frame.pc it 1 process_then on.there (row_is m k i x [] n f 0 p q on it here) (omega arith) way_then.pc in
        silent (sides m) (place m) (λ o z r t. Way (sides m) (place m) l o i z r t) k facts_then i w x world_then p q process_then goes_then
        (new_changes m i k w x q.frame.serial (turn_words words) worlds (turn_bare words)) worlds_then (omega (arith, low, high))
        (way facts_then world_then (next_serial x) process_then fresh hold_then)
