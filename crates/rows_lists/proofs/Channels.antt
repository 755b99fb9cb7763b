-- New channels.
use Rattle.std.proofs.Common.{◌≡◌, ℕ, suc, List, [], ◌∷◌, ◌++◌, Some, refl, ap, ◌∙◌, arith}
use Rattle.std.specs.Prelude.{slice_get}
use Rattle.limbo_types.specs.Types as ty
use Rattle.limbo_types.specs.Types.{Ty}
use Rattle.limbo_typed.specs.Typed as typed
use Rattle.limbo_meaning.specs.Memory as source
use Rattle.limbo_meaning.specs.Process.{Shared}
use Rattle.limbo_meaning.specs.Trees.{NewChannel}
use Rattle.limbo_meaning.specs.Values.{Ref}
use Rattle.system_model.specs.Limits.{frames_limit}
use Rattle.core_code.specs.Code.{Instr, Give}
use Rattle.core_code.specs.Machine as code
use Rattle.core_typing.specs.Going.{got_by}
use Rattle.dis_isa.specs.declared.inst.Middle.TheVariants as middle
use Rattle.dis_isa.specs.declared.inst.Operand.TheVariants as operand
use Rattle.dis_isa.specs.declared.op.Op.TheVariants as op
use Rattle.dis_meaning.specs.Process.{Process}
use Rattle.dis_memory.specs.Blocks as block
use Rattle.dis_memory.specs.Blocks.{Block, World, next_serial}
use Rattle.dis_memory.specs.Step.{type_of_size}
use Rattle.value_words.specs.Forms.{Channels}
use Rattle.value_words.specs.Facts.{Facts}
use Rattle.value_words.specs.Stands.{a_name}
use Rattle.value_frames.specs.Frames.{number_place, reference_place}
use Rattle.value_frames.specs.Standing.{a_value}
use Rattle.value_heaps.specs.Blocks as blocks
use Rattle.value_moves.specs.Operands.{inst, own}
use Rattle.value_code.specs.Objects.{object_of}
use Rattle.block_effects.proofs.Lists.{lists_come}
use Rattle.value_follows.specs.Stands.{types_of}
use Rattle.value_follows.specs.Sides.{sides, HoldTheSame, program}
use Rattle.value_follows.specs.Rows.{Base, InstrGoes}
use Rattle.value_follows.proofs.Standing.{finds, code_here}
use Rattle.value_follows.proofs.Single.{Once}
use Rattle.rows_lists.specs.Rows.{ChannelsGo}
use Rattle.rows_lists.proofs.OnTheWay.{On, reaches_it}
use Rattle.rows_lists.proofs.New.{value_made}
use Rattle.rows_lists.proofs.Coming.{reference_there, block_comes}
use Rattle.rows_lists.proofs.Needing.{used, found, next_on, goes_on_behind, rests, one_goes}
use Rattle.rows_lists.proofs.Lists.{one_name}

module _ (m : typed.Module) (b : Base m) (u : Ty) (into : ℕ) (from : List ℕ) where
  abbrev instr : Instr
  instr = Give (ty.ChanOf u) NewChannel into from

  abbrev new : Block
  new = block.Channel (type_of_size 4 (128 ∷ []))

  channel_comes : (k : Facts) (i : ℕ) (w : Shared) (x : World) (n : ℕ) (f : typed.Function) (p : code.Process) (q : Process) (on : On m k i x [] n f 0 p q)
      → HoldTheSame m k i x p q → (sides m).worlds k w x → slice_get p.frame.code p.frame.pc ≡ Some instr → Once m b i p q k w x
  channel_comes k i w x n f p q on hold worlds here =
      let to = reference_place m.adts (types_of m f) into in
      let there = used m k i x [] n f 0 p q on instr here in
      let needs = found m k i x [] n f 0 p q on instr here in
      let rest = rests m k i x n f 0 p q on into there.0 needs.3 in
      let it = inst op.Newcp operand.None middle.None (own to) in
      let live = got_by m.adts (ty.ChanOf u) NewChannel in
      let made = value_made m k i w x worlds new (Some (Channels u)) (λ q h. absurd (omega (arith, h))) source.Channel
      (λ now grows known formed. (blocks.channel u (type_of_size 4 (128 ∷ [])) formed, tt)) in
      block_comes m b k i w x [] n f 0 p q on hold worlds into there.0 refl it
      (reaches_it m b i p q [] n f 0 k w x on hold worlds instr here it refl) rest.0 rest.1 new
      ((lists_come frames_limit (object_of m) x q).channel.references operand.None (own to)
      (reference_there m b k i w x [] n f 0 p q on hold worlds into there.0 refl rest.0 rest.1))
      made.now (record { heap = w.heap ++ Some source.Channel ∷ []; outside = w.outside }) made.made made.after
      (ty.ChanOf u) live (Ref (Some (source.next_name (code.memory_of w p.frame))))
      (λ words e.
      a_value words (number_place m.adts (types_of m f) into) to (ty.ChanOf u) live (Ref (Some (source.next_name (code.memory_of w p.frame))))
      (a_name to (ty.ChanOf u) (Some (next_serial x)) (Some (source.next_name (code.memory_of w p.frame))) tt e
      (record { fact = made.known; formed = made.formed }))
      (λ j l e. one_name l (Some (source.next_name (code.memory_of w p.frame))) j e))
      (next_on m k i x [] n f 0 p q on instr here 1 refl refl)
      (goes_on_behind m k i x [] n f 0 p q on instr here 0 (suc p.frame.pc) _ (omega arith) refl)
      (ap (code.next frames_limit (program m) w p) here)

  channel_row : InstrGoes m instr
  channel_row k i x p q ready here =
      one_goes m b i p q k x ready (λ now w y on hold worlds.
      channel_comes now i w y ready.0.stands.is.number ready.0.stands.is.function p q on hold worlds here)

pub channels_go : ChannelsGo
channels_go m b t into from k i x p q ready here =
    let it = Give t NewChannel into from in
    let r = ready.0 in
    let found = finds m r.stands.is.function p.frame.pc r.stands.is.known it r.stands.goes (code_here m k i x p q r it here) in
    channel_row m b found.2.0 into from k i x p q ready (here ∙ ap (λ (u : Ty). Some (Give u NewChannel into from)) found.2.1)
