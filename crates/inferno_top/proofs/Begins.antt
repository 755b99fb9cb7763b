-- A module that runs has a function of the name `init`, and begins in the first of that name.
use Rattle.std.proofs.Common.{◌≡◌, ℕ, suc, ◌+◌, Bool, true, false, List, [], ◌∷◌, map, Some, refl, ap, ◌∙◌, arith, codes, ◌&&◌}
use Rattle.std.proofs.Common.{if◌then◌else◌}
use Rattle.std.specs.Prelude.{slice_get, not}
use Rattle.std.specs.Option.{option_map}
use Rattle.std.proofs.lemmas.Bool.{false≢true}
use Rattle.std.proofs.lemmas.Option.{slice_get-map}
use Rattle.std.proofs.lemmas.Slice.Eq.{bytes_eq-Decides}
use Rattle.limbo_typed.specs.Typed.{Function, Module}
use Rattle.typed_part.specs.Part.{is_part, is_init, is_none, init_in, has_init}
use Rattle.typed_part.proofs.Tests.{right}
use Rattle.typed_meaning.specs.Program.{routine_of}
use Rattle.typed_lower.specs.Statements.{function_code}
use Rattle.dis_file.specs.declared.object.Object.{Object}
use Rattle.dis_objects.specs.Objects.{find}
use Rattle.inferno_top.specs.declared.cause.Aim.TheVariants.{Run}
use Rattle.inferno_top.specs.Running.{IsCompiled, IsMade}

-- the first function of the name `init`, among functions that are numbered from here
record First (from : ℕ) (fs : List Function) : Type 0 where
  place : ℕ
  function : Function
  there : slice_get fs place ≡ Some function
  named : function.name ≡ codes "init"
  found : find from (codes "init") (map function_code fs) ≡ Some (place + from)

first : (from : ℕ) (fs : List Function) → not (is_none (init_in fs)) ≡ true → First from fs
first from [] h = absurd (false≢true h)
first from (f ∷ fs) h = go (is_init f) refl (λ k. first (suc from) fs k) h
  where
    go : (b : Bool) → is_init f ≡ b → (not (is_none (init_in fs)) ≡ true → First (suc from) fs)
        → not (is_none {A = Function} (elim b [ true ↦ Some f | false ↦ init_in fs ])) ≡ true → First from (f ∷ fs)
    go true e later h = record {
      place = 0;
      function = f;
      there = refl;
      named = (bytes_eq-Decides f.name (codes "init")).0 e;
      found = ap (λ (b : Bool). if b then Some from else find (suc from) (codes "init") (map function_code fs)) e
          ∙ (let near : from ≡ 0 + from = omega arith in ap Some near);
    }
    go false e later h =
        let r = later h in
        let far : r.place + suc from ≡ suc r.place + from = omega arith in
        record {
          place = suc r.place;
          function = r.function;
          there = r.there;
          named = r.named;
          found = ap (λ (b : Bool). if b then Some from else find (suc from) (codes "init") (map function_code fs)) e ∙ r.found
              ∙ ap Some far;
        }

pub compiled : (m : Module) (o : Object) → IsMade Run m o → IsCompiled m o
compiled m o made =
    let r = first 0 m.functions (right (is_part m) (has_init m) made.has.part) in
    let near : r.place + 0 ≡ r.place = omega arith in
    record {
      made = made;
      init = r.place;
      begins = record { function = r.function; there = r.there; named = r.named };
      first = routine_of r.function;
      enters = record {
        named = r.found ∙ ap Some near;
        there = slice_get-map routine_of m.functions r.place ∙ ap (option_map routine_of) r.there;
      };
    }
