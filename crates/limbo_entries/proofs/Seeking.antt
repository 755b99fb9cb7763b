-- What a name is in a scope.
use Rattle.std.proofs.Common.{◌≡◌, ◌<◌, ◌≤◌, ◌-◌, ℕ, suc, List, length, Option, Some}
use Rattle.std.proofs.Common.{None, IfSome, IfNone, MatchOption, refl, sym, ap, subst, ◌∙◌, arith}
use Rattle.std.specs.Prelude.{slice_get}
use Rattle.std.proofs.lemmas.Option.{none-some, same_Some, slice_get_within}
use Rattle.std.proofs.lemmas.List.{length-map}
use Rattle.limbo_declarations.specs.Names.{names, IsAt}
use Rattle.limbo_entries.specs.declared.entry.Entry as code_entry
use Rattle.limbo_entries.specs.declared.scope.Scope as code_scope
use Rattle.limbo_entries.specs.Entries as told
use Rattle.limbo_entries.specs.Entries.{Entry, IsEntry, IsMember, HasNone, Finds, AreOnce}
use Rattle.limbo_entries.specs.Growing.{IsScope, LeadsOutwards}
use Rattle.limbo_entries.specs.View.{entries_of, key, keys}
use Rattle.limbo_entries.proofs.Lists.{mapped}
use Rattle.limbo_entries.proofs.Indexed.{key_of}

-- how far outwards there may be scopes
abbrev pub depth : Option ℕ → ℕ
depth None = 0
depth (Some j) = suc j

-- ---- one scope

pub key_within :
    (es : List code_entry.Entry) (scope : Option ℕ) (name : List ℕ) (k : ℕ) → slice_get (keys es) k ≡ Some (scope, name) → k < length es
key_within es scope name k h =
    let b = slice_get_within (keys es) k (scope, name) h in
    let m : length (keys es) ≡ length es = length-map es key in
    omega arith

pub none_inside :
    (es : List code_entry.Entry) (n : ℕ) → LeadsOutwards (keys es) → length es ≤ n → (name : List ℕ) → HasNone (entries_of es) (Some n) name
none_inside es n outwards l name k m =
    let h = key_of es (Some n) name k m in
    let a = outwards n k name h in
    let b = key_within es (Some n) name k h in
    omega arith

pub none_there :
    (es : List code_entry.Entry) (number : Option ℕ) (s : code_scope.Scope) (name : List ℕ) → IsScope (keys es) number s
    → ((k : ℕ) → IsAt (names s.names.rows.items) k name → ⊥) → HasNone (entries_of es) number name
none_there es number s name i absent k m = absent (k - s.first) (i.no_other name k (key_of es number name k m))

-- ---- scope by scope

-- a name that a scope doesn't declare is what it is in the scope around it
inverted :
    (es : List Entry) (implemented : ℕ) (name : List ℕ) (s : Option ℕ) (k : ℕ) → Finds es implemented name s k
    → (j : ℕ) → s ≡ Some j → HasNone es (Some j) name → (o : Entry) × IsEntry es j o × Finds es implemented name o.within k
inverted es implemented name s k (told.here u q m) j e absent = absurd (absent q (subst (λ (z : Option ℕ). IsMember es z name q) e m))
inverted es implemented name s k (told.in_module q none m) j e absent = absurd (none-some j e)
inverted es implemented name s k (told.further i outer q none there f) j e absent =
    (outer, subst (λ (z : ℕ). IsEntry es z outer) (same_Some i j e) there, f)

at_top :
    (es : List Entry) (implemented : ℕ) (name : List ℕ) (s : Option ℕ) (k : ℕ) → Finds es implemented name s k
    → s ≡ None → HasNone es None name → IsMember es (Some implemented) name k
at_top es implemented name s k (told.here u q m) e absent = absurd (absent q (subst (λ (z : Option ℕ). IsMember es z name q) e m))
at_top es implemented name s k (told.in_module q none m) e absent = m
at_top es implemented name s k (told.further i outer q none there f) e absent = absurd (none-some i (sym e))

pub outwards :
    (es : List Entry) (implemented : ℕ) (name : List ℕ) (j : ℕ) (e : Entry) (k : ℕ) → IsEntry es j e → HasNone es (Some j) name
    → Finds es implemented name (Some j) k → Finds es implemented name e.within k
outwards es implemented name j e k there absent f =
    let g = inverted es implemented name (Some j) k f j refl absent in
    let s : g.0 ≡ e = same_Some g.0 e (sym g.1 ∙ there) in
    subst (λ (z : Entry). Finds es implemented name z.within k) s g.2

pub none_outwards :
    (es : List Entry) (implemented : ℕ) (name : List ℕ) (j : ℕ) (k : ℕ) → length es ≤ j → HasNone es (Some j) name
    → Finds es implemented name (Some j) k → ⊥
none_outwards es implemented name j k l absent f =
    let g = inverted es implemented name (Some j) k f j refl absent in
    let b = slice_get_within es j g.0 g.1 in
    omega arith

pub none_at_top :
    (es : List Entry) (implemented : ℕ) (name : List ℕ) (k : ℕ) → HasNone es None name → HasNone es (Some implemented) name
    → Finds es implemented name None k → ⊥
none_at_top es implemented name k absent none f = none k (at_top es implemented name None k f refl absent)

-- the scope around a declaration is less deep
pub less_deep :
    (es : List code_entry.Entry) (j : ℕ) (e : code_entry.Entry) → LeadsOutwards (keys es) → slice_get es j ≡ Some e
    → depth e.within < depth (Some j)
less_deep es j e out h = go e.within refl
  where
    go : (w : Option ℕ) → e.within ≡ w → depth w < suc j
    go None s = omega arith
    go (Some i) s =
        let g : slice_get (keys es) j ≡ Some (Some i, e.row.name.now.text) =
        mapped key es j e h ∙ ap (λ (z : Option ℕ). Some (z, e.row.name.now.text)) s in
        let l = out i j e.row.name.now.text g in
        omega arith

-- ---- one declaration at most

one_here :
    (es : List Entry) (implemented : ℕ) (name : List ℕ) (s : Option ℕ) (k : ℕ) → Finds es implemented name s k → AreOnce es
    → (j : ℕ) → IsMember es s name j → j ≡ k
one_here es implemented name s k (told.here u q m) once j n = once u name j q n m
one_here es implemented name s k (told.in_module q none m) once j n = absurd (none j n)
one_here es implemented name s k (told.further i outer q none there f) once j n = absurd (none j n)

pub one :
    (es : List Entry) (implemented : ℕ) (name : List ℕ) (s : Option ℕ) (j : ℕ) → AreOnce es → Finds es implemented name s j
    → (k : ℕ) → Finds es implemented name s k → j ≡ k
one es implemented name s j once (told.here u q m) k g = one_here es implemented name u k g once q m
one es implemented name s j once (told.in_module q none m) k g =
    once (Some implemented) name q k m (at_top es implemented name None k g refl none)
one es implemented name s j once (told.further i outer q none there f) k g =
    one es implemented name outer.within q once f k (outwards es implemented name i outer k there none g)

-- ---- answers

pub none_of : {A : Type 0} {P : Type 0} (C : Type 0) (Q : A → Type 0) (o : Option A) → MatchOption o C Q → (C → P) → IfNone o P
none_of C Q None h f = f h
none_of C Q (Some x) h f = tt

pub none_so : {A : Type 0} {C P : Type 0} (o : Option A) → IfNone o C → (C → P) → IfNone o P
none_so None h f = f h
none_so (Some x) h f = tt

pub some_of : {A : Type 0} {P Q : A → Type 0} (o : Option A) → IfSome o P → ((x : A) → P x → Q x) → IfSome o Q
some_of None h f = tt
some_of (Some x) h f = f x h
