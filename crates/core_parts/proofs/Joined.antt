-- Nodes of several parts.
use Rattle.std.proofs.Common.{◌≡◌, ℕ, ℤ, suc, ◌+◌, ◌-◌, Bool, true, false, List, [], ◌∷◌, ◌++◌, Option, Some, None, length, if◌then◌else◌}
use Rattle.std.proofs.Common.{refl, ap}
use Rattle.std.proofs.Common.{add-one, append_assoc}
use Rattle.limbo_types.specs.Types.{Ty}
use Rattle.limbo_layout.specs.Adts.{Def}
use Rattle.limbo_typed.specs.declared.operation.Connective.{Connective}
use Rattle.core_code.specs.Code.{Instr, Skip, Truth, Mirror, Start, Next, Take, Back, Other, Keep}
use Rattle.core_code.specs.Terms.{Lowered, drops_if, others}
use Rattle.core_parts.specs.Nodes.{connected, turns, turned_back}

pub mirrored_is : (held : Bool) (base code next right : List Instr) (d n : ℕ) → held ≡ true → n ≡ length right
    → code ≡ base ++ Mirror d n ∷ [] → next ≡ code ++ right → next ≡ base ++ drops_if held (Mirror d (length right) ∷ right)
mirrored_is held base code next right d n eh en e f = rw (f, e, eh, en) (append_assoc base (Mirror d (length right) ∷ []) right)

pub connect_is : (c : Connective) (held : Bool) (a b : Lowered) (decision : Option ℕ) (n : ℕ) (first second third drops : List Instr)
    → decision ≡ (if held then Some a.free else None) → n ≡ length b.code + 1
    → first ≡ a.code ++ Skip c b.free decision a.value n ∷ [] → second ≡ first ++ b.code → third ≡ second ++ Truth b.free b.value ∷ []
    → drops ≡ a.drops ++ drops_if held (Mirror a.free (length b.drops) ∷ b.drops)
    → ◌≡◌ {A = Lowered} (record { code = third; drops = drops; value = b.free; free = b.free + 1 }) (connected c held a b)
connect_is c held a b decision n first second third drops ed en e f g h =
    let skip = Skip c b.free (if held then Some a.free else None) a.value (suc (length b.code)) in
    rw (g, f, e, h, ed, en, add-one (length b.code), add-one b.free)
    (ap (λ is. record {
      code = is ++ Truth b.free b.value ∷ [];
      drops = a.drops ++ drops_if held (Mirror a.free (length b.drops) ∷ b.drops);
      value = b.free;
      free = suc b.free;
    }) (append_assoc a.code (skip ∷ []) b.code))

pub turns_is : (a : ℕ) (zs : List ℤ) (from : ℕ) (turn : List Instr) (n : ℕ) (none first second third fourth : List Instr) → none ≡ []
    → n ≡ length turn + 1 → first ≡ none ++ Start from ∷ [] → second ≡ first ++ Next a from zs n ∷ [] → third ≡ second ++ turn
    → fourth ≡ third ++ Back n ∷ [] → fourth ≡ turns a zs from turn
turns_is a zs from turn n none first second third fourth en el e f g h = rw (h, g, f, e, en, el, add-one (length turn)) refl

pub turned_back_is : (loop from words : ℕ) (is : List Instr) (n : ℕ) (none first second third : List Instr) → none ≡ []
    → n ≡ length is + 1 → first ≡ none ++ Take loop from words n ∷ [] → second ≡ first ++ is → third ≡ second ++ Back n ∷ []
    → third ≡ turned_back loop from words is
turned_back_is loop from words is n none first second third en el e f g = rw (g, f, e, en, el, add-one (length is)) refl

pub chain_is : (defs : List Def) (t : Ty) (a : ℕ) (zs : List ℤ) (from words : ℕ) (e : Lowered) (first turn code drops : List Instr)
    → words ≡ e.free - (from + 1) → first ≡ e.code ++ Other t a from e.value ∷ [] → turn ≡ first ++ Keep from (from + 1) words ∷ []
    → code ≡ turns a zs from turn → drops ≡ turned_back from (from + 1) words e.drops
    → ◌≡◌ {A = Lowered} (record { code = code; drops = drops; value = a; free = e.free }) (others defs true t a zs from e)
chain_is defs t a zs from words e first turn code drops ew ef et ec ed =
    rw (
      ec,
      ed,
      et,
      ef,
      ew,
      add-one from,
      append_assoc e.code (Other t a from e.value ∷ []) (Keep from (suc from) (e.free - suc from) ∷ []),
    ) refl

pub repeat_is : (defs : List Def) (t : Ty) (a : ℕ) (zs : List ℤ) (from : ℕ) (e : Lowered) (turn code none : List Instr)
    → none ≡ [] → turn ≡ e.code ++ Other t a from e.value ∷ [] → code ≡ turns a zs from turn
    → ◌≡◌ {A = Lowered} (record { code = code; drops = none; value = a; free = from + 1 }) (others defs false t a zs from e)
repeat_is defs t a zs from e turn code none en et ec = rw (ec, et, en, add-one from) refl
