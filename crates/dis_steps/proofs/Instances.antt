-- Objects whose instances blocks are.
use Rattle.std.proofs.Common.{◌≡◌, ℕ, Some, None, refl, ap, sym}
use Rattle.ref_heap.specs.declared.kind.Kind.{Kind}
use Rattle.ref_heap.specs.declared.kind.Kind.TheVariants as kind
use Rattle.ref_heap.specs.Words.{Content}
use Rattle.dis_meaning.specs.Words.{Found, Wrong, type_check}
use Rattle.dis_memory.specs.Step.{object_of}
use Rattle.dis_places.specs.declared.memory.Tables.{Tables}
use Rattle.dis_places.specs.Blocks.{block_by}
use Rattle.dis_steps.specs.Codes.{instance_of}

module _ (t : Tables) where
  pub object_found : (k : Kind) (c : Content) (n : ℕ) → Some n ≡ instance_of k → object_of (block_by t k c) ≡ Found n
  object_found (kind.Instance object) c n e = let same : n ≡ object = cc in ap Found (sym same)
  object_found kind.Record c n e = absurd cc
  object_found (kind.Fd number) c n e = absurd cc
  object_found kind.Text c n e = absurd cc
  object_found (kind.Array element long) c n e = absurd cc
  object_found (kind.Slice from long) c n e = absurd cc
  object_found kind.Cell c n e = absurd cc
  object_found (kind.Channel element) c n e = absurd cc
  object_found (kind.Sys names) c n e = absurd cc

  pub no_object : (k : Kind) (c : Content) → None ≡ instance_of k → object_of (block_by t k c) ≡ Wrong type_check
  no_object (kind.Instance object) c e = absurd cc
  no_object kind.Record c e = refl
  no_object (kind.Fd number) c e = refl
  no_object kind.Text c e = refl
  no_object (kind.Array element long) c e = refl
  no_object (kind.Slice from long) c e = refl
  no_object kind.Cell c e = refl
  no_object (kind.Channel element) c e = refl
  no_object (kind.Sys names) c e = refl
