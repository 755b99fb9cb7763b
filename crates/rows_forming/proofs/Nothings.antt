-- A word of the module's data refers to nothing.
use Rattle.std.proofs.Common.{◌≡◌, ℕ, pos, List, Some, None, refl, ap, ◌∙◌, inl, inr}
use Rattle.limbo_types.specs.Types as ty
use Rattle.limbo_types.specs.Types.{Ty}
use Rattle.limbo_layout.specs.Adts.{Def}
use Rattle.limbo_typed.specs.Typed as typed
use Rattle.limbo_meaning.specs.Process.{Shared}
use Rattle.limbo_meaning.specs.Values.{Value, Ref}
use Rattle.core_code.specs.Machine as code
use Rattle.dis_meaning.specs.Words.{Word, Refer, Access, Found, ◌>>=◌, word_at, reference}
use Rattle.dis_meaning.specs.Process.{Process}
use Rattle.dis_memory.specs.Blocks.{World}
use Rattle.dis_memory.specs.Places.{source_reference}
use Rattle.value_words.specs.Facts.{Facts}
use Rattle.value_words.specs.Stands as memory
use Rattle.value_words.specs.Stands.{a_number, a_text, a_name, an_array, no_words, a_tuple, an_adt}
use Rattle.value_moves.proofs.Leading.{spots_lead}
use Rattle.value_code.specs.Data.{nil_word}
use Rattle.value_code.specs.Objects.{placed}
use Rattle.number_effects.proofs.Reading.{operands_are_read}
use Rattle.value_follows.specs.Stands.{FrameIs}
use Rattle.value_follows.specs.Sides.{sides, HoldTheSame}
use Rattle.value_follows.specs.Rows.{Base}
use Rattle.value_follows.proofs.Standing.{instance_here}

nil_word_refers : (defs : List Def) (k : Facts) (words : List Word) (at : ℕ) (t : Ty) (v : Value) → v ≡ Ref None → memory.Stands defs k words at t v
    → word_at words (pos at) ≡ Found (Refer None)
nil_word_refers defs k words _ _ _ e (a_number at j z f i) = absurd cc
nil_word_refers defs k words _ _ _ e (a_text at r s f i) = absurd cc
nil_word_refers defs k words _ _ _ e (a_name at t None n i f h) = f
nil_word_refers defs k words _ _ _ e (a_name at t (Some b) None i f h) = absurd h
nil_word_refers defs k words _ _ _ e (a_name at t (Some b) (Some n) i f h) = absurd cc
nil_word_refers defs k words _ _ _ e (an_array at t r p f i) = absurd cc
nil_word_refers defs k words _ _ _ e (no_words at) = absurd cc
nil_word_refers defs k words _ _ _ e (a_tuple at ts rs vs l all) = absurd cc
nil_word_refers defs k words _ _ _ e (an_adt at n d rs vs f l all) = absurd cc

module _ (m : typed.Module) (b : Base m) (k : Facts) (i : ℕ) (w : Shared) (x : World) (p : code.Process) (q : Process) (busy : List ℕ)
    (is : FrameIs m k i x busy p.frame q.frame) (hold : HoldTheSame m k i x p q) (worlds : (sides m).worlds k w x) where
  pub nil_read : source_reference x q nil_word ≡ Found None
  nil_read =
      let there = instance_here m b k i w x p q busy is hold worlds.0 in
      operands_are_read.source_referring x q nil_word there.0 4 (spots_lead.of_module x q 0 there.0 4 there.1).0
      ∙ ap (λ (a : Access Word). a >>= reference)
      (nil_word_refers m.adts k there.0 4 ty.Nil (Ref None) refl (there.2 (placed m 4 ty.Nil (Ref None)) (inr (inl refl))).stands)
