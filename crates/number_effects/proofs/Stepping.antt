-- One step of a process.
use Rattle.std.proofs.Common.{◌≡◌, ℕ, List, Option, ap, ◌∙◌}
use Rattle.std.specs.Prelude.{slice_get}
use Rattle.dis_isa.specs.declared.inst.Inst.{Inst}
use Rattle.dis_file.specs.declared.object.Object.{Object}
use Rattle.dis_meaning.specs.Words.{Access, Found, ◌>>=◌, type_check, bad_jump, dead_address, or_wrong}
use Rattle.dis_meaning.specs.Process.{Process}
use Rattle.dis_memory.specs.Blocks.{Block, World, block}
use Rattle.dis_memory.specs.Places.{Memory}
use Rattle.dis_memory.specs.Process.{Does, next, or_fault}
use Rattle.dis_memory.specs.Control.{framed}
use Rattle.dis_memory.specs.Step.{obey, work, object_of, code_of, step}
use Rattle.value_moves.proofs.Obeying.{on}
use Rattle.number_effects.specs.Stepping.{Reaches, StepsObey}

module _ (limit : ℕ) (objects : List Object) (x : World) (p : Process) (o : Object) (i : Inst) (r : Reaches objects x p o i) where
  steps : step limit objects x p ≡ or_fault x p (obey limit o x p i i.op)
  steps =
      ap (or_fault x p)
      (on (code_of limit objects x p) o (λ c. work limit c x p)
      (on (block x p.frame.instance >>= object_of) r.object (λ n. or_wrong type_check (slice_get objects n))
      (ap (λ (b : Option Block). or_wrong dead_address b >>= object_of) r.instance)
      ∙ ap (or_wrong type_check) r.code)
      ∙ on (or_wrong bad_jump (slice_get o.insts p.frame.pc)) i (λ j. obey limit o x p j j.op) (ap (or_wrong bad_jump) r.here))

  comes_to : (a : Access Does) → obey limit o x p i i.op ≡ a → step limit objects x p ≡ or_fault x p a
  comes_to a e = steps ∙ ap (or_fault x p) e

pub steps_obey : StepsObey
steps_obey = record {
  steps = λ limit objects x p o i r. steps limit objects x p o i r;
  does = λ limit objects x p o i done r e. comes_to limit objects x p o i r _ e;
  faults = λ limit objects x p o i n r e. comes_to limit objects x p o i r _ e;
  raises = λ limit objects x p o i text r e. comes_to limit objects x p o i r _ e;
  goes_on = λ limit objects x p o i m r e. comes_to limit objects x p o i r _ e;
  stores = λ limit objects x p o i y place others m r e f.
      comes_to limit objects x p o i r (Found (next m)) (e ∙ ap (λ (c : Access Memory). c >>= λ n. Found (next n)) f);
  makes_frame = λ limit objects x p o i place others words m r e f.
      comes_to limit objects x p o i r (Found (next (framed m words)))
      (e ∙ ap (λ (c : Access Memory). c >>= λ n. Found (next (framed n words))) f);
}
