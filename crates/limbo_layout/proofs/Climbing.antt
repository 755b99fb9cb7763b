-- One step on the way from an adt to those that it holds.
use Rattle.std.proofs.Common.{◌≡◌, ◌≢◌, ℕ, zero, suc, ◌+◌, ◌*◌, ◌-◌, ◌<◌, ◌≤◌, ◌⊎◌, ◌==◌, inl, inr, Bool, true, false, List, [], ◌∷◌, ◌++◌, length, reverse, take, get_or, map, Option, Some, None, refl, sym, ap, subst, ◌∙◌, arith, rules, tests, append_assoc}
use Rattle.std.proofs.Math.ListN.{set}
use Rattle.std.proofs.lemmas.List.{length-set, length-append, get_or-set_same, get_or-set_other, reverse-append, take_all, take_more}
use Rattle.std.specs.Prelude.{slice_get}
use Rattle.limbo_types.specs.Types.{Adt}
use Rattle.limbo_layout.specs.declared.def.AdtDef as code_def
use Rattle.limbo_layout.specs.Adts.{Def, Has, held_in, parts}
use Rattle.limbo_layout.specs.Layout.{Room, Laid, of_adt, in_order, nothing, limit, Fits}
use Rattle.limbo_layout.specs.Laying.{IsLaid, rooms_of, room_at}
use Rattle.limbo_layout.specs.Paths.{IsAt, Holds, HoldsWithin, HoldsOnly, Path, is_done, is_begun, goes_on, IsTable, IsReady, Climbs, unmarked, left}
use Rattle.limbo_layout.specs.View.{view_def, view_defs}
use Rattle.limbo_layout.proofs.Rooms.{has_left, has_right, has_cases, reads_all, one_room}
use Rattle.limbo_layout.proofs.Ways.{path_fits, path_leads, path_back, no_circle}
use Rattle.limbo_layout.proofs.Marks.{set_same, set_keeps, set_cases, set_count}

-- ---- the last on the path

pub last_apart : (path : List ℕ) (n top : ℕ) → 0 < length path → n ≡ length path → top ≡ get_or path (n - 1) top → path ≡ take (n - 1) path ++ (top ∷ [])
last_apart path n top l f e =
    sym (take_all (n - 1 + 1) path (omega arith)) ∙ take_more path (n - 1) top (omega arith) ∙ ap (λ x. take (n - 1) path ++ (x ∷ [])) (sym e)

pub seen_at : (ds : List code_def.AdtDef) (i : ℕ) (x : code_def.AdtDef) → i < length ds → x ≡ get_or ds i x → slice_get (view_defs ds) i ≡ Some (view_def x)
seen_at [] i x l e = absurd (omega arith)
seen_at (d ∷ ds) zero x l e = ap (λ z. Some (view_def z)) (sym e)
seen_at (d ∷ ds) (suc i) x l e = seen_at ds i x (omega arith) e

pub bool_at : (ms : List Bool) (i : ℕ) (b : Bool) → i < length ms → b ≡ get_or ms i b → IsAt ms i b
bool_at [] i b l e = absurd (omega arith)
bool_at (m ∷ ms) zero b l e = ap Some (sym e)
bool_at (m ∷ ms) (suc i) b l e = bool_at ms i b (omega arith) e

reverse_last : (front : List ℕ) (top : ℕ) → reverse (front ++ (top ∷ [])) ≡ top ∷ reverse front
reverse_last front top = reverse-append front (top ∷ [])

has_reverse : (xs : List ℕ) (n : ℕ) → Has xs n → Has (reverse xs) n
has_reverse [] n h = absurd h
has_reverse (x ∷ xs) n h = subst (λ (z : List ℕ). Has z n) (sym (reverse-append (x ∷ []) xs)) (turned (has_reverse xs n) h)
  where
    turned : (Has xs n → Has (reverse xs) n) → Has (x ∷ xs) n → Has (reverse xs ++ (x ∷ [])) n
    turned k (inl e) = has_right (reverse xs) (x ∷ []) n (inl e)
    turned k (inr i) = has_left (reverse xs) (x ∷ []) n (k i)

path_one : (defs : List Def) (first : ℕ) (ns : List ℕ) → Path defs first ns → (top : ℕ) → ns ≡ top ∷ [] → top ≡ first
path_one defs first _ is_done top e = absurd cc
path_one defs first _ is_begun top e = cc
path_one defs first _ (goes_on a b ns h p) top e = absurd cc

module _ (defs : List Def) (first : ℕ) (rooms : List Room) (laid entered : List Bool) (path front : List ℕ) (top : ℕ) (k : Climbs defs first rooms laid entered path) (s : path ≡ front ++ (top ∷ [])) where
  newest : reverse path ≡ top ∷ reverse front
  newest = ap reverse s ∙ reverse_last front top

  pub top_there : top < length defs
  top_there = k.within top (subst (λ (z : List ℕ). Has z top) (sym s) (has_right front (top ∷ []) top (inl refl)))

  top_fits : Fits defs (Adt first) → Fits defs (Adt top)
  top_fits f = path_fits defs first (reverse path) k.way f top (subst (λ (z : List ℕ). Has z top) (sym newest) (inl refl))

  pub circle : (next : ℕ) → Holds defs top next → Has path next → Fits defs (Adt first) → ⊥
  circle next h i f =
      no_circle defs next (path_fits defs first (reverse path) k.way f next (has_reverse path next i))
      (path_leads defs first (reverse path) k.way top next next (reverse front) newest h (has_reverse path next i))

  -- what the last one holds is laid, so its room is known
  laid_top : (d : Def) → slice_get defs top ≡ Some d → ((n : ℕ) → Has (held_in (parts d)) n → IsAt laid n true) → Laid defs (Adt top) (in_order (rooms_of rooms (parts d)))
  laid_top d e a = of_adt top d (rooms_of rooms (parts d)) e (reads_all defs rooms (parts d) (λ n h. (k.table.each n (a n h)).laid))

  pub too_large_top : (d : Def) → slice_get defs top ≡ Some d → ((n : ℕ) → Has (held_in (parts d)) n → IsAt laid n true) → limit < (in_order (rooms_of rooms (parts d))).size → Fits defs (Adt first) → ⊥
  too_large_top d e a l f =
      let t = top_fits f in
      let o : t.0 ≡ in_order (rooms_of rooms (parts d)) = one_room defs (Adt top) t.0 _ t.1 (laid_top d e a) in
      let g : t.0.size ≡ (in_order (rooms_of rooms (parts d))).size = ap (λ (r : Room). r.size) o in
      let w : t.0.size ≤ limit = t.2 in
      omega arith

  pub climb_push : (next : ℕ) → HoldsOnly defs → Holds defs top next → Climbs defs first rooms laid (set entered next true) (path ++ (next ∷ []))
  climb_push next o h = record {
    table = k.table;
    entered_length = length-set entered next true ∙ k.entered_length;
    way = subst (λ (z : List ℕ). Path defs first z) (sym (reverse_last path next ∙ ap (λ z. next ∷ z) newest)) (goes_on top next (reverse front) h (subst (λ (z : List ℕ). Path defs first z) newest k.way));
    within = λ n i. elim (has_cases path (next ∷ []) n i) [
      | inl a ↦ k.within n a
      | inr a ↦ elim a [
        | inl e ↦ subst (λ (z : ℕ). z < length defs) e (o top next h)
        | inr b ↦ absurd b
      ]
    ];
    on_path = λ n i. elim (set_cases entered next n i) [
      | inl a ↦ elim (k.on_path n a) [
        | inl b ↦ inl b
        | inr b ↦ inr (has_left path (next ∷ []) n b)
      ]
      | inr e ↦ inr (has_right path (next ∷ []) n (inl (sym e)))
    ];
    ends = λ e. absurd (ends_not path e);
  }
    where
      ends_not : (xs : List ℕ) → xs ++ (next ∷ []) ≡ [] → ⊥
      ends_not [] e = cc
      ends_not (x ∷ xs) e = cc

  pub climb_pop : (d : Def) (room : Room) → top < length rooms → slice_get defs top ≡ Some d → ((n : ℕ) → Has (held_in (parts d)) n → IsAt laid n true) → room ≡ in_order (rooms_of rooms (parts d)) → room.size ≤ limit
      → Climbs defs first (set rooms top room) (set laid top true) entered front
  climb_pop d room l e a r f = record {
    table = record {
      rooms_length = length-set rooms top room ∙ k.table.rooms_length;
      laid_length = length-set laid top true ∙ k.table.laid_length;
      each = λ n i. elim (set_cases laid top n i) [
        | inl b ↦ pick n (n == top) refl (k.table.each n b)
        | inr b ↦ subst (λ (z : ℕ). IsLaid defs (set rooms top room) z) (sym b) own
      ];
    };
    entered_length = k.entered_length;
    way = path_back defs first (reverse path) k.way top (reverse front) newest;
    within = λ n i. k.within n (subst (λ (z : List ℕ). Has z n) (sym s) (has_left front (top ∷ []) n i));
    on_path = λ n i. elim (k.on_path n i) [
      | inl b ↦ inl (set_keeps laid top n b)
      | inr b ↦ elim (has_cases front (top ∷ []) n (subst (λ (z : List ℕ). Has z n) s b)) [
        | inl c ↦ inr c
        | inr c ↦ elim c [
          | inl q ↦ inl (subst (λ (z : ℕ). IsAt (set laid top true) z true) q marked)
          | inr q ↦ absurd q
        ]
      ]
    ];
    ends = λ q. subst (λ (z : ℕ). IsAt (set laid top true) z true) (path_one defs first (reverse path) k.way top (newest ∙ ap (λ (z : List ℕ). top ∷ reverse z) q)) marked;
  }
    where
      marked : IsAt (set laid top true) top true
      marked = set_same laid top (let t = top_there in let q = k.table.laid_length in omega arith)

      own : IsLaid defs (set rooms top room) top
      own =
          let g : room_at (set rooms top room) top ≡ room = get_or-set_same rooms top room nothing l in
          record {
            laid = subst (λ (z : Room). Laid defs (Adt top) z) (sym (g ∙ r)) (laid_top d e a);
            fits = rw g f;
          }

      pick : (n : ℕ) (b : Bool) → (n == top) ≡ b → IsLaid defs rooms n → IsLaid defs (set rooms top room) n
      pick n true q i = let p : n ≡ top = search (rules, tests, q) in subst (λ (z : ℕ). IsLaid defs (set rooms top room) z) (sym p) own
      pick n false q i =
          let p : n ≢ top = λ z. let y : (n == n) ≡ false = ap (λ m. n == m) z ∙ q in let x : (n == n) ≡ true = search (rules, tests) in cc in
          let g : room_at (set rooms top room) n ≡ room_at rooms n = get_or-set_other rooms top n room nothing p in
          record {
            laid = subst (λ (z : Room). Laid defs (Adt n) z) (sym g) i.laid;
            fits = rw g i.fits;
          }

pub less_pushed : (entered : List Bool) (path : List ℕ) (next : ℕ) → IsAt entered next false → left (set entered next true) (path ++ (next ∷ [])) < left entered path
less_pushed entered path next h = let c = set_count entered next h in simp length-append (omega arith)

pub climb_begun : (defs : List Def) (first : ℕ) (rooms : List Room) (laid entered : List Bool) (path : List ℕ) → path ≡ first ∷ [] → first < length defs → IsReady defs rooms laid entered → Climbs defs first rooms laid (set entered first true) path
climb_begun defs first rooms laid entered path e l r = record {
  table = r.table;
  entered_length = length-set entered first true ∙ r.entered_length;
  way = rw e is_begun;
  within = λ n h. let g : Has (first ∷ []) n = rw e at h in elim g [
    | inl f ↦ subst (λ (z : ℕ). z < length defs) f l
    | inr f ↦ absurd f
  ];
  on_path = λ n h. elim (set_cases entered first n h) [
    | inl a ↦ inl (r.all_laid n a)
    | inr f ↦ inr (subst (λ (z : List ℕ). Has z n) (sym e) (inl (sym f)))
  ];
  ends = λ f. absurd (let g : first ∷ [] ≡ [] = sym e ∙ f in cc);
}

-- what is laid has a room of at most the limit
pub laid_fits : (defs : List Def) (rooms : List Room) (laid : List Bool) → IsTable defs rooms laid → (n : ℕ) → IsAt laid n true → Fits defs (Adt n)
laid_fits defs rooms laid t n h = let i = t.each n h in (room_at rooms n, i.laid, i.fits)
