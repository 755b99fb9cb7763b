-- What is told where nothing is left to be found out.
use Rattle.std.proofs.Common.{◌≡◌, ◌<◌, ℕ, List, length, Option, refl, sym, subst, arith}
use Rattle.limbo_entries.specs.Entries.{Entry}
use Rattle.limbo_naming.specs.declared.state.State.{State}
use Rattle.limbo_naming.specs.declared.state.Found.{Found}
use Rattle.limbo_naming.specs.declared.state.Found.TheVariants as found
use Rattle.limbo_naming.specs.declared.naming.Named.TheVariants as named
use Rattle.limbo_naming.specs.Qualified.{Qualified}
use Rattle.limbo_naming.specs.Search.{HasState, AreKnown, AreDone, IsOpen, Says}
use Rattle.limbo_naming.specs.Told.{Tells, TellsOf, Knows}
use Rattle.limbo_naming.specs.Seeing.{SaysIn}
use Rattle.limbo_naming.specs.declared.naming.Named.{Named}
use Rattle.limbo_naming.specs.declared.naming.Naming.{Naming}
use Rattle.limbo_naming.specs.declared.sight.Sight.{Sight}
use Rattle.limbo_entries.specs.View.{entries_of}
use Rattle.limbo_naming.proofs.Lists.{filled}

pub none_open : (es : List Entry) (m : ℕ) (states : List State) → AreKnown es m states → AreDone states → (k : ℕ) → k < length es → IsOpen states k → ⊥
none_open es m states a d k l o =
    let e = a.same_length in
    let x = filled states k (omega arith) in
    let t = d k x.0 x.1 in
    o t.0 (subst (λ (z : State). HasState states k z) t.1 x.1)

pub nothing : (es : List Entry) (m : ℕ) (states : List State) (scope : Option ℕ) (q : Qualified) → AreKnown es m states → AreDone states → (f : Found)
    → ((r : ℕ) → f ≡ found.Named r → ⊥) → (f ≡ found.Unknown → ⊥) → Says es m states scope q f → Tells es m scope q named.Nothing
nothing es m states scope q a d (found.Named r) x y s = absurd (x r refl)
nothing es m states scope q a d found.Unknown x y s = absurd (y refl)
nothing es m states scope q a d found.Nothing x y s = s
nothing es m states scope q a d (found.Needs k) x y s = absurd (none_open es m states a d k s.0 s.1)

-- what is seen from a table is told of it
pub told_of : (n : Naming) (s : Sight) → s.table ≡ n.table → s.implemented ≡ n.implemented → s.states.now ≡ n.states.items → Knows n
    → (scope : Option ℕ) (q : Qualified) (f : Found) (r : Named)
    → ((es : List Entry) (m : ℕ) (states : List State) (scope : Option ℕ) (q : Qualified) → AreKnown es m states → AreDone states → Says es m states scope q f
    → Tells es m scope q r)
    → SaysIn s scope q f → TellsOf n scope q r
told_of n s a b c k scope q f r w x =
    let y : Says (entries_of n.table.now.entries.items) n.implemented n.states.items scope q f = rw (sym a, sym b, sym c) x in
    w (entries_of n.table.now.entries.items) n.implemented n.states.items scope q k.sight.known k.done y
