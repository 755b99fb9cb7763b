-- What the scopes of a table find.
use Rattle.std.proofs.Common.{◌≡◌, ◌<◌, ◌+◌, ◌-◌, inl, inr, ℕ, List, [], ◌∷◌, ◌++◌}
use Rattle.std.proofs.Common.{length, map, Option, Some, None, refl, sym, ap, subst, ◌∙◌, arith, length-append}
use Rattle.std.specs.Prelude.{slice_get}
use Rattle.std.proofs.lemmas.Option.{none-some, same_Some, slice_get_within}
use Rattle.std.proofs.lemmas.List.{length-map}
use Rattle.limbo_declarations.specs.declared.row.Row as code_row
use Rattle.limbo_declarations.specs.Rows.{Row}
use Rattle.limbo_declarations.specs.Names.{names, IsAt}
use Rattle.limbo_declarations.specs.Names as declared
use Rattle.limbo_declarations.specs.View.{rows_of, view_row}
use Rattle.limbo_declarations.proofs.Indexes.{once}
use Rattle.limbo_entries.specs.declared.scope.Scope as code_scope
use Rattle.limbo_entries.specs.declared.entry.Entry as code_entry
use Rattle.limbo_entries.specs.declared.table.Table as code_table
use Rattle.limbo_entries.specs.Entries.{Entry, IsEntry, IsMember, IsTable, AreOnce, inside, IsTwiceIn, HasTwice, IsAgain}
use Rattle.limbo_entries.specs.Entries as told
use Rattle.limbo_entries.specs.Growing.{IsScope, AreScopes, LeadsOutwards, IsTableTo, IsGrown}
use Rattle.limbo_entries.specs.View.{view_entry, entries_of, placed, key, keys}
use Rattle.limbo_entries.proofs.Lists.{at_left, at_right, at_cases, single, mapped, from_mapped, place_at}
use Rattle.limbo_entries.proofs.Tables.{stand, start, more, whole, within_less, is_among, is_there}
use Rattle.limbo_entries.proofs.Repeated.{not_twice}

abbrev pub Keys : Type 0
Keys = List (Option ℕ × List ℕ)

-- ---- lists of entries and their names

abbrev named : Option ℕ → List ℕ → Option ℕ × List ℕ
named scope n = (scope, n)

keys_placed : (scope : Option ℕ) (rows : List code_row.Row) → keys (map (placed scope) rows) ≡ map (named scope) (names rows)
keys_placed scope [] = refl
keys_placed scope (r ∷ rows) = ap (λ (z : Keys). (scope, r.name.now.text) ∷ z) (keys_placed scope rows)

keys_more :
    (es : List code_entry.Entry) (scope : Option ℕ) (rows : List code_row.Row)
    → keys (es ++ map (placed scope) rows) ≡ keys es ++ map (named scope) (names rows)
keys_more [] scope rows = keys_placed scope rows
keys_more (e ∷ es) scope rows = ap (λ (z : Keys). key e ∷ z) (keys_more es scope rows)

entries_placed : (scope : Option ℕ) (rows : List code_row.Row) → entries_of (map (placed scope) rows) ≡ map (stand scope) (rows_of rows)
entries_placed scope [] = refl
entries_placed scope (r ∷ rows) = ap (λ (z : List Entry). stand scope (view_row r) ∷ z) (entries_placed scope rows)

entries_more :
    (es : List code_entry.Entry) (scope : Option ℕ) (rows : List code_row.Row)
    → entries_of (es ++ map (placed scope) rows) ≡ entries_of es ++ map (stand scope) (rows_of rows)
entries_more [] scope rows = entries_placed scope rows
entries_more (e ∷ es) scope rows = ap (λ (z : List Entry). view_entry e ∷ z) (entries_more es scope rows)

pub key_of :
    (es : List code_entry.Entry) (scope : Option ℕ) (name : List ℕ) (k : ℕ) → IsMember (entries_of es) scope name k
    → slice_get (keys es) k ≡ Some (scope, name)
key_of es scope name k m =
    let f = from_mapped view_entry es k m.entry m.there in
    let g : slice_get (keys es) k ≡ Some (f.0.within, f.0.row.name.now.text) = mapped key es k f.0 f.1 in
    let s : f.0.within ≡ scope = ap (λ (z : Entry). z.within) f.2 ∙ m.stands in
    let t : f.0.row.name.now.text ≡ name = ap (λ (z : Entry). z.row.name) f.2 ∙ m.named in
    g ∙ ap (λ (z : Option ℕ). Some (z, f.0.row.name.now.text)) s ∙ ap (λ (z : List ℕ). Some (scope, z)) t

pub member_of :
    (es : List code_entry.Entry) (scope : Option ℕ) (name : List ℕ) (k : ℕ) → slice_get (keys es) k ≡ Some (scope, name)
    → IsMember (entries_of es) scope name k
member_of es scope name k h =
    let f = from_mapped key es k (scope, name) h in
    record {
      entry = view_entry f.0;
      there = mapped view_entry es k f.0 f.1;
      stands = ap (λ (z : Option ℕ × List ℕ). z.0) f.2;
      named = ap (λ (z : Option ℕ × List ℕ). z.1) f.2;
    }

-- ---- scopes

named_in :
    (scope number : Option ℕ) (ns : List (List ℕ)) (k : ℕ) (name : List ℕ) → slice_get (map (named scope) ns) k ≡ Some (number, name)
    → (scope ≡ number) × IsAt ns k name
named_in scope number ns k name h =
    let f = from_mapped (named scope) ns k (number, name) h in
    (ap (λ (z : Option ℕ × List ℕ). z.0) f.2, f.1 ∙ ap (λ (z : Option ℕ × List ℕ). Some z.1) f.2)

-- a scope finds the same where others are added
stays :
    (all behind : Keys) (number : Option ℕ) (s : code_scope.Scope)
    → ((k : ℕ) (name : List ℕ) → slice_get behind k ≡ Some (number, name) → ⊥)
    → IsScope all number s → IsScope (all ++ behind) number s
stays all behind number s apart i = record {
  there = λ name k h. at_left all behind (s.first + k) (number, name) (i.there name k h);
  none_before = λ name k h. i.none_before name k (old name k h);
  no_other = λ name k h. i.no_other name k (old name k h);
}
  where
    old : (name : List ℕ) (k : ℕ) → slice_get (all ++ behind) k ≡ Some (number, name) → slice_get all k ≡ Some (number, name)
    old name k h = elim (at_cases all behind k (number, name) h) [
      | inl g ↦ g
      | inr g ↦ absurd (apart g.0 name g.2)
    ]

abbrev names_in : code_scope.Scope → List (List ℕ)
names_in s = names s.names.rows.items

abbrev behind : Option ℕ → code_scope.Scope → Keys
behind number s = map (named number) (names_in s)

-- a scope that is added
pub comes :
    (all : Keys) (number : Option ℕ) (s : code_scope.Scope) → s.first ≡ length all
    → ((k : ℕ) (name : List ℕ) → slice_get all k ≡ Some (number, name) → ⊥)
    → IsScope (all ++ map (named number) (names s.names.rows.items)) number s
comes all number s first apart = record {
  there = λ name k h.
      at_right all (behind number s) k (s.first + k) (number, name) (omega arith) (mapped (named number) (names_in s) k name h);
  none_before = λ name k h. let g = new name k h in let e = g.1 in omega arith;
  no_other = λ name k h.
      let g = new name k h in
      let e : g.0 ≡ k - s.first = let f = g.1 in omega arith in
      subst (λ (z : ℕ). IsAt (names_in s) z name) e g.2;
}
  where
    new :
        (name : List ℕ) (k : ℕ) → slice_get (all ++ behind number s) k ≡ Some (number, name)
        → (i : ℕ) × (k ≡ length all + i) × IsAt (names_in s) i name
    new name k h = elim (at_cases all (behind number s) k (number, name) h) [
      | inl g ↦ absurd (apart k name g)
      | inr g ↦ (g.0, g.1, (named_in number number (names_in s) g.0 name g.2).1)
    ]

-- a scope has a name at one place
one_place :
    (all : Keys) (number : Option ℕ) (s : code_scope.Scope) (name : List ℕ) (j k : ℕ) → IsScope all number s
    → slice_get all j ≡ Some (number, name) → slice_get all k ≡ Some (number, name) → j ≡ k
one_place all number s name j k i h g =
    let e : j - s.first ≡ k - s.first =
    once s.names.index (names s.names.rows.items) s.names.found (j - s.first) (k - s.first) name (i.no_other name j h)
    (i.no_other name k g) in
    let a = i.none_before name j h in
    let b = i.none_before name k g in
    omega arith

each_once : (s : code_scope.Scope) → declared.AreOnce (names s.names.rows.items)
each_once s = once s.names.index (names s.names.rows.items) s.names.found

-- ---- tables that grow

scopes_more :
    (all : Keys) (scopes : List code_scope.Scope) (n : ℕ) (s : code_scope.Scope) → AreScopes all scopes → length scopes ≡ n
    → s.first ≡ length all
    → ((j k : ℕ) (name : List ℕ) → slice_get all k ≡ Some (Some j, name) → j < n)
    → AreScopes (all ++ behind (Some n) s) (scopes ++ s ∷ [])
scopes_more all scopes n s are many first below j x h = elim (at_cases scopes (s ∷ []) j x h) [
  | inl g ↦
      stays all (behind (Some n) s) (Some j) x
      (λ k name i.
      let e : n ≡ j = same_Some n j (named_in (Some n) (Some j) (names_in s) k name i).0 in
      let b = slice_get_within scopes j x g in
      omega arith)
      (are j x g)
  | inr g ↦
      let e = single s g.0 x g.2 in
      let f : n ≡ j = let a = g.1 in let b = e.0 in omega arith in
      let i : IsScope (all ++ behind (Some n) s) (Some n) s =
      comes all (Some n) s first (λ k name m. let l = below n k name m in omega arith) in
      subst (λ (z : ℕ). IsScope (all ++ behind (Some n) s) (Some z) x) f
      (subst (λ (z : code_scope.Scope). IsScope (all ++ behind (Some n) s) (Some n) z) e.1 i)
]

rows_more :
    (es added : List code_entry.Entry) (scopes : List code_scope.Scope) (n : ℕ) (e : code_entry.Entry) (s : code_scope.Scope)
    → ((j : ℕ) (o : code_entry.Entry) (q : code_scope.Scope) → slice_get es j ≡ Some o → slice_get scopes j ≡ Some q
    → rows_of q.names.rows.items ≡ inside (view_row o.row))
    → length scopes ≡ n → slice_get es n ≡ Some e → rows_of s.names.rows.items ≡ inside (view_row e.row)
    → (j : ℕ) (o : code_entry.Entry) (q : code_scope.Scope) → slice_get (es ++ added) j ≡ Some o → slice_get (scopes ++ s ∷ []) j ≡ Some q
    → rows_of q.names.rows.items ≡ inside (view_row o.row)
rows_more es added scopes n e s before many there same j o q h i = elim (at_cases scopes (s ∷ []) j q i) [
  | inl f ↦ elim (at_cases es added j o h) [
    | inl g ↦ before j o q g f
    | inr g ↦
        absurd
        (let a = slice_get_within scopes j q f in
        let b = slice_get_within es n e there in
        let l = g.1 in
        omega arith)
  ]
  | inr f ↦
      let p = single s f.0 q f.2 in
      let m : n ≡ j = let a = f.1 in let b = p.0 in omega arith in
      let g : slice_get (es ++ added) j ≡ Some e = at_left es added j e (subst (λ (z : ℕ). slice_get es z ≡ Some e) m there) in
      let t : e ≡ o = same_Some e o (sym g ∙ h) in
      ap (λ (z : code_scope.Scope). rows_of z.names.rows.items) (sym p.1) ∙ same ∙ ap (λ (z : code_entry.Entry). inside (view_row z.row)) t
]

-- the first step: the scope of the top level
pub begun :
    (rows : List code_row.Row) (s : code_scope.Scope) → s.first ≡ 0 → s.names.rows.items ≡ rows
    → IsGrown (rows_of rows) (map (placed None) rows) s [] 0
begun rows s first same = record {
  top_rows = ap rows_of same;
  inner_rows = λ j e s a h. absurd (none-some s h);
  is_table = subst (λ (z : List Entry). IsTableTo (rows_of rows) z 0) (sym (entries_placed None rows)) (start (rows_of rows));
  at_top = subst (λ (z : Keys). IsScope z None s) (sym all_are) (comes [] None s first (λ k name h. none_some h));
  are_scopes = λ j x h. absurd (none-some x h);
  as_many = refl;
  none_further = λ j k name h.
      let i = subst (λ (z : Keys). slice_get z k ≡ Some (Some j, name)) (keys_placed None rows) h in
      let g = named_in None (Some j) (names rows) k name i in
      absurd (none-some j g.0);
}
  where
    all_are : keys (map (placed None) rows) ≡ behind None s
    all_are = keys_placed None rows ∙ ap (λ (z : List code_row.Row). map (named None) (names z)) (sym same)

    none_some : {A : Type 0} {x : A} → None ≡ Some x → ⊥
    none_some {A} {x} h = none-some x h

-- what stands inside one more declaration
pub grown :
    (top : List Row) (es : List code_entry.Entry) (outermost : code_scope.Scope) (scopes : List code_scope.Scope) (n : ℕ)
    (e : code_entry.Entry) (s : code_scope.Scope) (rows : List code_row.Row)
    → IsGrown top es outermost scopes n → slice_get es n ≡ Some e → rows_of rows ≡ inside (view_row e.row) → s.first ≡ length es
    → s.names.rows.items ≡ rows → IsGrown top (es ++ map (placed (Some n)) rows) outermost (scopes ++ s ∷ []) (n + 1)
grown top es outermost scopes n e s rows g there inner first same = record {
  is_table = subst (λ (z : List Entry). IsTableTo top z (n + 1)) (sym entries_are)
      (more top (entries_of es) n (view_entry e) g.is_table (mapped view_entry es n e there));
  at_top = subst (λ (z : Keys). IsScope z None outermost) (sym keys_are)
      (stays (keys es) (behind (Some n) s) None outermost
      (λ k name h. let f = (named_in (Some n) None (names_in s) k name h).0 in absurd (none-some n (sym f))) g.at_top);
  are_scopes = subst (λ (z : Keys). AreScopes z (scopes ++ s ∷ [])) (sym keys_are)
      (scopes_more (keys es) scopes n s g.are_scopes g.as_many (first ∙ sym (length-map es key)) g.none_further);
  top_rows = g.top_rows;
  inner_rows =
      rows_more es (map (placed (Some n)) rows) scopes n e s g.inner_rows g.as_many there (ap rows_of same ∙ inner);
  as_many = length_more;
  none_further = λ j k name h.
      let i = subst (λ (z : Keys). slice_get z k ≡ Some (Some j, name)) keys_are h in
      elim (at_cases (keys es) (behind (Some n) s) k (Some j, name) i) [
        | inl i ↦ let l = g.none_further j k name i in omega arith
        | inr i ↦ let f : n ≡ j = same_Some n j (named_in (Some n) (Some j) (names_in s) i.0 name i.2).0 in omega arith
      ];
}
  where
    entries_are : entries_of (es ++ map (placed (Some n)) rows) ≡ entries_of es ++ map (stand (Some n)) (inside (view_row e.row))
    entries_are = entries_more es (Some n) rows ∙ ap (λ (z : List Row). entries_of es ++ map (stand (Some n)) z) inner

    keys_are : keys (es ++ map (placed (Some n)) rows) ≡ keys es ++ behind (Some n) s
    keys_are = keys_more es (Some n) rows ∙ ap (λ (z : List code_row.Row). keys es ++ map (named (Some n)) (names z)) (sym same)

    length_more : length (scopes ++ s ∷ []) ≡ n + 1
    length_more = let l = g.as_many in length-append scopes (s ∷ []) ∙ ap (λ m. m + 1) l

-- ---- the whole table

-- the scope in which a declaration stands is one of the table's
scope_at :
    (all : Keys) (outermost : code_scope.Scope) (scopes : List code_scope.Scope) (n : ℕ) (number : Option ℕ) (name : List ℕ) (k : ℕ)
    → IsScope all None outermost → AreScopes all scopes → length scopes ≡ n
    → ((j k : ℕ) (name : List ℕ) → slice_get all k ≡ Some (Some j, name) → j < n)
    → slice_get all k ≡ Some (number, name) → (s : code_scope.Scope) × IsScope all number s
scope_at all outermost scopes n None name k top inside many below h = (outermost, top)
scope_at all outermost scopes n (Some j) name k top inside many below h =
    let l = below j k name h in
    let f = place_at scopes j (omega arith) in
    (f.0, inside j f.0 f.1)

once_by :
    (es : List code_entry.Entry) (outermost : code_scope.Scope) (scopes : List code_scope.Scope) (n : ℕ)
    → IsScope (keys es) None outermost → AreScopes (keys es) scopes → length scopes ≡ n
    → ((j k : ℕ) (name : List ℕ) → slice_get (keys es) k ≡ Some (Some j, name) → j < n) → AreOnce (entries_of es)
once_by es outermost scopes n top inside many below scope name j k a b =
    let h = key_of es scope name j a in
    let i = key_of es scope name k b in
    let s = scope_at (keys es) outermost scopes n scope name j top inside many below h in
    one_place (keys es) scope s.0 name j k s.1 h i

pub once_each :
    (top : List Row) (es : List code_entry.Entry) (outermost : code_scope.Scope) (scopes : List code_scope.Scope) (n : ℕ)
    → IsGrown top es outermost scopes n → AreOnce (entries_of es)
once_each top es outermost scopes n g = once_by es outermost scopes n g.at_top g.are_scopes g.as_many g.none_further

-- of a table at any time
pub once_in : (t : code_table.Table) → AreOnce (entries_of t.entries.items)
once_in t =
    once_by t.entries.items t.outermost t.scopes.items (length t.entries.items) t.at_top t.inside t.many
    (λ j k name h.
    let l = t.outwards j k name h in
    let b = slice_get_within (keys t.entries.items) k (Some j, name) h in
    let m : length (keys t.entries.items) ≡ length t.entries.items = length-map t.entries.items key in
    omega arith)

pub leads_outwards :
    (top : List Row) (es : List code_entry.Entry) (outermost : code_scope.Scope) (scopes : List code_scope.Scope) (n : ℕ)
    → IsGrown top es outermost scopes n → LeadsOutwards (keys es)
leads_outwards top es outermost scopes n g j k name h =
    let m = member_of es (Some j) name k h in
    within_less top (entries_of es) k m.entry (g.is_table.only k m.entry m.there) j m.stands

-- a name that stands again inside a declaration of the table
pub again_inside :
    (top : List Row) (es : List code_entry.Entry) (outermost : code_scope.Scope) (scopes : List code_scope.Scope) (n k : ℕ)
    (e : code_entry.Entry) (rows : List Row) (r : Row)
    → IsGrown top es outermost scopes n → slice_get es k ≡ Some e → rows ≡ inside (view_row e.row)
    → (twice : IsTwiceIn rows) × (twice.other ≡ r) → IsAgain top r
again_inside top es outermost scopes n k e rows r g h s t =
    let a = is_among top (entries_of es) g.is_table.only k (view_entry e) (mapped view_entry es k e h) in
    let u = subst (λ (z : List Row). (twice : IsTwiceIn z) × (twice.other ≡ r)) s t in
    told.inner (view_row e.row) a u.0 u.1

-- the table after its first scope, by what has been there
pub begun_at :
    (old es : List code_entry.Entry) (rows : List code_row.Row) (s : code_scope.Scope) → old ≡ [] → es ≡ old ++ map (placed None) rows
    → s.first ≡ length old → s.names.rows.items ≡ rows → IsGrown (rows_of rows) es s [] 0
begun_at old es rows s none e first same =
    let f : es ≡ map (placed None) rows = e ∙ ap (λ (z : List code_entry.Entry). z ++ map (placed None) rows) none in
    subst (λ (z : List code_entry.Entry). IsGrown (rows_of rows) z s [] 0) (sym f)
    (begun rows s (first ∙ ap (λ (z : List code_entry.Entry). length z) none) same)

pub table_of :
    (top : List Row) (es : List code_entry.Entry) (outermost : code_scope.Scope) (scopes : List code_scope.Scope)
    → IsGrown top es outermost scopes (length es) → IsTable top (entries_of es)
table_of top es outermost scopes g =
    let m : length (entries_of es) ≡ length es = length-map es view_entry in
    whole top (entries_of es) (length es) g.is_table (omega arith)

-- no scope has a name twice
pub none_twice :
    (top : List Row) (es : List code_entry.Entry) (outermost : code_scope.Scope) (scopes : List code_scope.Scope)
    → IsGrown top es outermost scopes (length es) → HasTwice top → ⊥
none_twice top es outermost scopes g (told.outermost t) =
    not_twice outermost.names.rows.items (each_once outermost) (subst (λ (z : List Row). IsTwiceIn z) (sym g.top_rows) t)
none_twice top es outermost scopes g (told.inner r a t) =
    let f = is_there top (entries_of es) r (table_of top es outermost scopes g) a in
    let q = from_mapped view_entry es f.0 f.1 f.2 in
    let b = slice_get_within es f.0 q.0 q.1 in
    let p = place_at scopes f.0 (let m = g.as_many in omega arith) in
    let e : rows_of p.0.names.rows.items ≡ inside r =
    g.inner_rows f.0 q.0 p.0 q.1 p.1 ∙ ap (λ (z : Entry). inside z.row) q.2 ∙ ap inside f.3 in
    not_twice p.0.names.rows.items (each_once p.0) (subst (λ (z : List Row). IsTwiceIn z) (sym e) t)
