use Rattle.std.proofs.Common.{refl}
use Rattle.core_code.specs.Terms.{part_types}
use Rattle.limbo_layout.specs.Layout.{nothing}
use Rattle.limbo_meaning.specs.Values.{Parts, row}
use Rattle.value_words.proofs.Parts as part
use Rattle.value_words.proofs.laws.parts_stand.Goals as goal

pub returns : goal.returns
returns c = record {
  there = λ defs facts words at t vs rs n u r s l e f.
      part.part_among defs facts words at nothing (part_types defs t) rs vs n u r
      (part.parts_stand defs facts words at t (Parts (row vs)) s vs refl rs l) e f;
  replaced = λ defs facts words others at t whole v w rs n u r s l a i j m e f before after h.
      part.replaced defs facts words others i j at t whole v w rs n u r s l a m e f before after h;
}
