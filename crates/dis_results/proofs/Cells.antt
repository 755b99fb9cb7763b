-- What a cell of a list refers to is there.
use Rattle.std.proofs.Common.{◌≡◌, ℕ, ◌≤◌, List, [], ◌∷◌, Option, Some, None, refl, sym, ap, ◌∙◌, arith}
use Rattle.std.specs.Prelude.{slice_get, Result, Ok, Err, IfOk, IfSome}
use Rattle.std.specs.Option.{option_map}
use Rattle.ref_heap.specs.declared.word.Ref.{Ref}
use Rattle.ref_heap.specs.Words.{Cell, plain, refer, in_block, in_frame, cells}
use Rattle.ref_heap.specs.Store.{Block, IsHeap, IsLive, at}
use Rattle.dis_meaning.specs.Counts.{refers, in_words}
use Rattle.dis_meaning.specs.Words.{Word, Refer, Found, type_check, or_wrong, reference}
use Rattle.dis_places.specs.declared.fault.Fault.{Fault}
use Rattle.dis_places.specs.declared.memory.Memory.{Memory}
use Rattle.dis_places.specs.Blocks.{first_name, behind_first}
use Rattle.dis_places.specs.Words.{view_cells, GivesFault}
use Rattle.dis_kinds.specs.Views.{first_in, behind_in, view_linked}
use Rattle.dis_stores.proofs.Named.{cells_named}
use Rattle.dis_results.proofs.Live.{refers_itself, word_counted, inside_live}
use Rattle.dis_results.proofs.Sources.{refers_there}

behind_counted : (n : ℕ) (cs : List Cell) → in_words n (view_cells (behind_first cs)) ≤ in_words n (view_cells cs)
behind_counted n [] = omega arith
behind_counted n (c ∷ cs) = omega arith

first_counted : (n : ℕ) (cs : List Cell) → first_name cs ≡ Some n → 1 ≤ in_words n (view_cells cs)
first_counted n [] e = absurd cc
first_counted n (plain v ∷ cs) e = absurd cc
first_counted n (refer r ∷ cs) e = let one = ap (λ r. refers n (Refer r)) e ∙ refers_itself n in omega (arith, one)
first_counted n (in_block s v ∷ cs) e = absurd cc
first_counted n (in_frame s v ∷ cs) e = absurd cc

pub word_live : (m : Memory) (cell : Ref) (k n : ℕ) → IsHeap m.heap → slice_get (view_linked m cell).element k ≡ Some (Refer (Some n)) → IsLive m.heap n
word_live m cell k n ok e = go (at m.heap cell.serial) refl e
  where
    go : (o : Option Block) → at m.heap cell.serial ≡ o → slice_get (behind_in o) k ≡ Some (Refer (Some n)) → IsLive m.heap n
    go None is e = absurd cc
    go (Some b) is e =
        let a = word_counted n (view_cells (behind_first (cells b.content))) k e in
        let c = behind_counted n (cells b.content) in
        let d = cells_named (cells b.content) n in
        inside_live m.heap cell.serial n b ok is (omega (arith, a, c, d))

-- The reference of an element.
pub element_live : (m : Memory) (cell : Ref) (k : ℕ) (w : Word) (r : Result (Option Ref) Fault) → IsHeap m.heap →
    or_wrong type_check (slice_get (view_linked m cell).element k) ≡ Found w → GivesFault (option_map (λ (r : Ref). r.serial)) r (reference w) →
    IfOk r (λ o. IfSome o (λ r. IsLive m.heap r.serial))
element_live m cell k w (Err f) ok e g = tt
element_live m cell k w (Ok None) ok e g = tt
element_live m cell k w (Ok (Some r)) ok e g = go (slice_get (view_linked m cell).element k) refl e
  where
    go : (o : Option Word) → slice_get (view_linked m cell).element k ≡ o → or_wrong type_check o ≡ Found w → IsLive m.heap r.serial
    go None is e = absurd cc
    go (Some v) is e =
        let same : v ≡ w = cc in
        word_live m cell k r.serial ok (is ∙ ap Some (same ∙ refers_there w (Some r.serial) g))

-- The rest behind a cell.
pub rest_live : (m : Memory) (cell : Ref) (r : Option Ref) → IsHeap m.heap → option_map (λ (r : Ref). r.serial) r ≡ (view_linked m cell).rest → IfSome r (λ r. IsLive m.heap r.serial)
rest_live m cell None ok e = tt
rest_live m cell (Some r) ok e = go (at m.heap cell.serial) refl (sym e)
  where
    go : (o : Option Block) → at m.heap cell.serial ≡ o → first_in o ≡ Some r.serial → IsLive m.heap r.serial
    go None is e = absurd cc
    go (Some b) is e =
        let a = first_counted r.serial (cells b.content) e in
        let d = cells_named (cells b.content) r.serial in
        inside_live m.heap cell.serial r.serial b ok is (omega (arith, a, d))
