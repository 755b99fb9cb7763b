-- Instructions of a process with two strings, with the laws that say what they come to.
use Rattle.std.proofs.Common.{ℕ, pos, List, [], ◌∷◌, None, Some, refl}
use Rattle.dis_isa.specs.declared.inst.Middle.TheVariants as middle
use Rattle.dis_isa.specs.declared.op.Op.TheVariants as op
use Rattle.dis_file.specs.declared.object.Object.{Object}
use Rattle.dis_file.specs.declared.types.TypeDesc.{TypeDesc}
use Rattle.limbo_values.specs.declared.number.Kind.TheVariants.{Int}
use Rattle.dis_meaning.specs.Words.{Word, Plain, Refer, Address, InBlock, Found, Raises}
use Rattle.dis_meaning.specs.Process.{Process}
use Rattle.dis_meaning.specs.Places.{Own}
use Rattle.dis_memory.specs.Blocks.{Text, Array, Cell, World, Outer, with_block}
use Rattle.dis_memory.specs.Raising.{nil_text}
use Rattle.dis_memory.specs.Places.{memory}
use Rattle.dis_memory.specs.Process.{next}
use Rattle.value_moves.specs.Operands.{inst, own, of_own}
use Rattle.block_effects.specs.Stored.{Comes, NumberThere, ReferenceThere, PlainThere}
use Rattle.block_effects.proofs.Strings.{strings_come}
use Rattle.block_effects.proofs.Arrays.{arrays_come}
use Rattle.block_effects.proofs.Lists.{lists_come}

module _ (limit : ℕ) (o : Object) (outer : Outer) where
  abbrev ints : TypeDesc
  ints = record { size = 4; map = [] }

  abbrev x : World
  x = record {
    heap = Some (Text (97 ∷ 98 ∷ [])) ∷ Some (Array ints 2 (Plain (pos 5) ∷ Plain (pos 6) ∷ [])) ∷ [];
    outside = outer;
  }

  abbrev framed : List Word → Process
  framed words = record {
    number = 0;
    frame = record { serial = 0; instance = 9; pc = 3; words = words };
    below = [];
    made = [];
    printing = None;
  }

  abbrev p : Process
  p = framed (Refer (Some 0) ∷ Refer None ∷ Plain (pos 1) ∷ Refer (Some 1) ∷ [])

  abbrev nothing_there : ReferenceThere x p (own 4)
  nothing_there = record {
    words = p.frame.words;
    byte = 4;
    leads = record { place = Own (pos 4); found = refl; among = refl; byte = refl };
    old = None;
    stands = refl;
  }

  abbrev number_there : NumberThere x p Int (own 8)
  number_there = record {
    words = p.frame.words;
    byte = 8;
    leads = record { place = Own (pos 8); found = refl; among = refl; byte = refl };
    old = pos 1;
    stands = refl;
  }

  abbrev plain_there : PlainThere x p 8
  plain_there = record { old = Plain (pos 1); stands = refl; is_plain = refl }

  -- A text twice is a new block.
  twice : Comes limit o x p (inst op.Addc (own 0) (of_own 0) (own 4))
      (Found (next (memory (with_block x (Text (97 ∷ 98 ∷ 97 ∷ 98 ∷ [])))
      (framed (Refer (Some 0) ∷ Refer (Some 2) ∷ Plain (pos 1) ∷ Refer (Some 1) ∷ [])))))
  twice =
      (strings_come limit o x p).join.both (own 0) (own 4) (of_own 0) (97 ∷ 98 ∷ []) (97 ∷ 98 ∷ []) (97 ∷ 98 ∷ 97 ∷ 98 ∷ []) nothing_there
      (Some 0, refl, refl) (Some 0, refl, refl) refl

  -- How long it is.
  long : Comes limit o x p (inst op.Lenc (own 0) middle.None (own 8))
      (Found (next (memory x (framed (Refer (Some 0) ∷ Refer None ∷ Plain (pos 2) ∷ Refer (Some 1) ∷ [])))))
  long = (strings_come limit o x p).read.long (own 0) (own 8) middle.None (97 ∷ 98 ∷ []) _ number_there (Some 0, refl, refl) refl

  -- The address of an element, by the index that stood in the same word, and what is raised where there is no array.
  element : Comes limit o x p (inst op.Indw (own 12) (of_own 8) (own 8))
      (Found (next (memory x (framed (Refer (Some 0) ∷ Refer None ∷ Address (InBlock 1) (pos 4) ∷ Refer (Some 1) ∷ [])))))
  element =
      (arrays_come limit o x p).index.number Int (own 12) (own 8) 8 _ (pos 1) 1 plain_there (Some 1, refl, refl) refl refl refl

  no_element : Comes limit o x p (inst op.Indw (own 4) (of_own 8) (own 8)) (Raises nil_text)
  no_element = (arrays_come limit o x p).index.number_of_nil Int (own 4) (own 8) 8 (pos 1) plain_there (None, refl, refl) refl

  -- A cell in front of nothing.
  one_cell : Comes limit o x p (inst op.Consw (own 8) middle.None (own 4))
      (Found (next (memory (with_block x (Cell (Plain (pos 1) ∷ []) None))
      (framed (Refer (Some 0) ∷ Refer (Some 2) ∷ Plain (pos 1) ∷ Refer (Some 1) ∷ [])))))
  one_cell = (lists_come limit o x p).make.number Int (own 8) (own 4) middle.None (pos 1) nothing_there refl
