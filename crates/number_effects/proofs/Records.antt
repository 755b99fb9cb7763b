-- Words that are moved, addresses, and new records.
use Rattle.std.proofs.Common.{◌≡◌, ℕ, ◌+◌, ◌/◌, pos, List, Option, Some, ◌⊎◌, inl, inr, refl, sym, ap, ◌∙◌}
use Rattle.std.specs.Prelude.{slice_get}
use Rattle.dis_isa.specs.declared.op.Op.TheVariants as op
use Rattle.dis_isa.specs.declared.inst.Inst.{Inst}
use Rattle.dis_isa.specs.declared.inst.Operand.{Operand}
use Rattle.dis_isa.specs.declared.inst.Operand.TheVariants as operand
use Rattle.dis_file.specs.declared.object.Object.{Object}
use Rattle.dis_file.specs.declared.types.TypeDesc.{TypeDesc}
use Rattle.dis_meaning.specs.Words.{InBlock, Word, Plain, Refer, Address, Access, Found, ◌>>=◌, type_check, or_wrong, at_least_zero}
use Rattle.dis_meaning.specs.Words.{word_at, plain, blank}
use Rattle.dis_meaning.specs.Process.{Process}
use Rattle.dis_meaning.specs.Places.{Spot, Own, Data, Far, place_in, address}
use Rattle.dis_memory.specs.Blocks.{World, Record, with_block, next_serial}
use Rattle.dis_memory.specs.Places.{spot, words_at, around, behind, read, source_plain, source_reference}
use Rattle.dis_memory.specs.Operands.{source_type}
use Rattle.dis_memory.specs.Results.{gives_plain_at, gives_reference, gives_block}
use Rattle.dis_memory.specs.Arrays as arrays
use Rattle.dis_memory.specs.Step.{obey}
use Rattle.dis_memory.proofs.Growing.{both, found_same}
use Rattle.value_moves.specs.Spots.{Leads}
use Rattle.value_moves.proofs.Obeying.{on}
use Rattle.number_effects.specs.Giving.{StoresWord}
use Rattle.number_effects.specs.Records.{WordsMove}
use Rattle.number_effects.proofs.Giving.{results_go}

-- ---- plain words are plain

still_plain : (v w : Word) → plain v ≡ Found w → plain w ≡ Found w
still_plain (Plain n) w e = ap plain (sym (found_same (Plain n) w e)) ∙ e
still_plain (Address place at) w e = ap plain (sym (found_same (Address place at) w e)) ∙ e
still_plain (Refer r) w e = absurd cc

plain_found : (a : Access Word) (w : Word) → a >>= plain ≡ Found w → plain w ≡ Found w
plain_found a w e = let h = both a plain w e in still_plain h.first w h.then

plain_source : (x : World) (p : Process) (a : Operand) (w : Word) → source_plain x p a ≡ Found w → plain w ≡ Found w
plain_source x p operand.None w e = absurd cc
plain_source x p (operand.Imm n) w e = ap plain (sym (found_same (Plain n) w e)) ∙ e
plain_source x p (operand.Fp n) w e = plain_found (read x p (Own n)) w e
plain_source x p (operand.Mp n) w e = plain_found (read x p (Data n)) w e
plain_source x p (operand.IndFp m n) w e =
    let h = both (spot x p (operand.IndFp m n)) (λ s. read x p s >>= plain) w e in plain_found (read x p h.first) w h.then
plain_source x p (operand.IndMp m n) w e =
    let h = both (spot x p (operand.IndMp m n)) (λ s. read x p s >>= plain) w e in plain_found (read x p h.first) w h.then

plain_address : (p : Process) (s : Spot) → plain (address p s) ≡ Found (address p s)
plain_address p (Own n) = refl
plain_address p (Data n) = refl
plain_address p (Far place n) = refl

-- ---- types

pub type_is : (o : Object) (s : Operand) (n : ℕ) (desc : TypeDesc) → s ≡ operand.Imm (pos n) → slice_get o.types n ≡ Some desc
    → source_type o s ≡ Found desc
type_is o s n desc e f = ap (source_type o) e ∙ ap (or_wrong type_check) f

-- ---- the instructions

module _ (limit : ℕ) (o : Object) (x : World) (p : Process) (i : Inst) (target : List Word) (to : ℕ) (d : Leads x p i.dst target to) where
  word_moves : (w old : Word) → i.op ≡ op.Movw → source_plain x p i.src ≡ Found w → word_at target (pos to) >>= plain ≡ Found old
      → StoresWord (obey limit o x p i i.op) x p d.place target to w
  word_moves w old is e f =
      let g = results_go.word x p i.dst target to d old w f (plain_source x p i.src w e) in (
        g.0,
        ap (obey limit o x p i) is
            ∙ on (source_plain x p i.src) w (λ v. spot x p i.dst >>= λ t. gives_plain_at x p t (Found v)) e
            ∙ on (spot x p i.dst) d.place (λ t. gives_plain_at x p t (Found w)) d.found
            ∙ g.1,
      )

  reference_moves : (r old : Option ℕ) → i.op ≡ op.Movp → source_reference x p i.src ≡ Found r → word_at target (pos to) ≡ Found (Refer old)
      → StoresWord (obey limit o x p i i.op) x p d.place target to (Refer r)
  reference_moves r old is e f =
      let g = results_go.reference x p i.dst target to d old r f in (
        g.0,
        ap (obey limit o x p i) is
            ∙ on (source_reference x p i.src) r (λ t. gives_reference x p i.dst (Found t)) e
            ∙ g.1,
      )

  address_stored : (source : List Word) (from : ℕ) (s : Leads x p i.src source from) (w old : Word) → i.op ≡ op.Lea
      → slice_get source (from / 4) ≡ Some w → word_at target (pos to) >>= plain ≡ Found old
      → StoresWord (obey limit o x p i i.op) x p d.place target to (address p s.place)
  address_stored source from s w old is e f =
      let g = results_go.word x p i.dst target to d old (address p s.place) f (plain_address p s.place) in (
        g.0,
        ap (obey limit o x p i) is
            ∙ on (spot x p i.src) s.place
            (λ t. around x p t >>= λ v. spot x p i.dst >>= λ u. gives_plain_at x p u (Found (address p t))) s.found
            ∙ on (around x p s.place) w (λ v. spot x p i.dst >>= λ u. gives_plain_at x p u (Found (address p s.place)))
            (on (words_at x p s.place) source (λ ws. at_least_zero (place_in s.place) >>= λ n. or_wrong type_check (slice_get ws (n / 4))) s.among
            ∙ on (at_least_zero (place_in s.place)) from (λ n. or_wrong type_check (slice_get source (n / 4))) (ap at_least_zero s.byte)
            ∙ ap (or_wrong type_check) e)
            ∙ on (spot x p i.dst) d.place (λ u. gives_plain_at x p u (Found (address p s.place))) d.found
            ∙ g.1,
      )

  record_made : (n : ℕ) (desc : TypeDesc) (old : Option ℕ) → (i.op ≡ op.New) ⊎ (i.op ≡ op.Newz) → i.src ≡ operand.Imm (pos n)
      → slice_get o.types n ≡ Some desc → word_at target (pos to) ≡ Found (Refer old)
      → StoresWord (obey limit o x p i i.op) (with_block x (Record (blank desc))) p d.place target to (Refer (Some (next_serial x)))
  record_made n desc old is e f h =
      let g = results_go.block x p i.dst target to d old (Record (blank desc)) h in (
        g.0,
        obeys is
            ∙ on (source_type o i.src) desc (λ t. gives_block x p i.dst (Found (Record (blank t)))) (type_is o i.src n desc e f)
            ∙ g.1,
      )
    where
      obeys : (i.op ≡ op.New) ⊎ (i.op ≡ op.Newz) → obey limit o x p i i.op ≡ arrays.new o x p i
      obeys (inl is) = ap (obey limit o x p i) is
      obeys (inr is) = ap (obey limit o x p i) is

-- ---- addresses

module _ (x : World) (p : Process) (o : Operand) (words : List Word) (m : ℕ) (l : Leads x p o words m) where
  address_is : (s : Spot) → spot x p o ≡ Found s → address p l.place ≡ address p s
  address_is s e = ap (address p) (found_same l.place s (sym l.found ∙ e))

pub words_move : WordsMove
words_move = record {
  word = λ limit o x p i w target to d old is e f. word_moves limit o x p i target to d w old is e f;
  reference = λ limit o x p i r target to d old is e f. reference_moves limit o x p i target to d r old is e f;
  lea = λ limit o x p i source from s w target to d old is e f. address_stored limit o x p i target to d source from s w old is e f;
  own_address = λ x p n words m l. address_is x p (operand.Fp (pos n)) words m l (Own (pos n)) refl;
  module_address = λ x p n words m l. address_is x p (operand.Mp (pos n)) words m l (Data (pos n)) refl;
  inner_address = λ x p r b n words m l e.
      address_is x p (operand.IndFp (pos r) (pos n)) words m l (Far (InBlock b) (pos n)) (ap (λ (a : Access Word). a >>= λ w. behind w (pos n)) e);
  far_address = λ x p r place a n words m l e.
      address_is x p (operand.IndFp (pos r) (pos n)) words m l (Far place (pos (a + n))) (ap (λ (a : Access Word). a >>= λ w. behind w (pos n)) e);
  new = λ limit o x p i n desc target to d old is e f h. record_made limit o x p i target to d n desc old is e f h;
}
