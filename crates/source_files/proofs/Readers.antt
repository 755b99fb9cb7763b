-- What a reader has read.
use Rattle.std.proofs.Common.{◌≡◌, ℕ, zero, suc, ◌+◌, ◌<◌, ◌≤◌, ◌⊎◌, inl, inr, Bool, true, false, not, cond, if◌then◌else◌, List, [], ◌∷◌, ◌++◌, length, take, get_or, Option, None, Some, IsSome, Vec, Global, refl, sym, ap, subst, ◌∙◌, arith}
use Rattle.std.specs.Prelude.{slice_get}
use Rattle.std.specs.Option.{IfSome}
use Rattle.std.specs.List.{Contains}
use Rattle.std.specs.Ordering.{nat_cmp}
use Rattle.std.specs.BTreeSet.{BTreeSet, contains, Updates}
use Rattle.std.specs.BTreeMap.{is_at}
use Rattle.std.specs.Cmp.Lexicographic.{slice_cmp, same_text, texts_ties, nat_list_eq_equiv}
use Rattle.std.proofs.lemmas.List.Elements.{Contains-push_cases}
use Rattle.std.proofs.lemmas.List.{take_more, length-append, get_or_append_left, get_or_push, get_or_past}
use Rattle.std.proofs.lemmas.Option.{same_Some, none-some, slice_get_within}
use Rattle.inf_ports.specs.Outside.{Told}
use Rattle.inf_text.specs.declared.span.Span.{Span}
use Rattle.limbo_tree.specs.View.{view_source}
use Rattle.limbo_tree.specs.declared.source.Source.{Source}
use Rattle.limbo_tree.specs.declared.source.Top.{Top}
use Rattle.limbo_tree.specs.declared.source.Top.TheVariants.{Include, Declare, Define}
use Rattle.limbo_includes.specs.declared.included.Included.{Included}
use Rattle.limbo_includes.specs.Includes.{is_same, target, tops_at, Leads, to_given, to_included}
use Rattle.source_files.specs.declared.reader.Reader.{Reader}
use Rattle.source_files.specs.Files.{IsMissing, IsBlamed, IsSpelled, IsRefusal, AtPath, AtText}
use Rattle.source_files.specs.declared.fault.FilesFault.{FilesFault}
use Rattle.source_files.specs.declared.fault.FilesFault.TheVariants as fault
use Rattle.source_files.specs.Reading.{targets, is_asked, depth_at, source_of, IsReached, IsReadOnce, IsOfAsked, IsAnswered, IsReading, IsKept, Later, Settles, stays, grows, Asks, Adds, Keeps, Marks}

-- ---- lists that grow at their end

tops_more : (xs ys : List Included) (p : List ℕ) (x : List Top) → tops_at xs p ≡ Some x → tops_at (xs ++ ys) p ≡ Some x
tops_more [] ys p x e = absurd (none-some x e)
tops_more (t ∷ ts) ys p x e = pick (is_same t.path p) (tops_more ts ys p x) e
  where
    pick : (b : Bool) → (tops_at ts p ≡ Some x → tops_at (ts ++ ys) p ≡ Some x)
        → (if b then Some t.tree.tops.items else tops_at ts p) ≡ Some x → (if b then Some t.tree.tops.items else tops_at (ts ++ ys) p) ≡ Some x
    pick true r e = e
    pick false r e = r e

tops_new : (xs : List Included) (t : Included) → tops_at xs t.path ≡ None → tops_at (xs ++ t ∷ []) t.path ≡ Some t.tree.tops.items
tops_new [] t e = ap (λ (b : Bool). if b then Some t.tree.tops.items else None) (nat_list_eq_equiv.refl t.path)
tops_new (u ∷ us) t e = pick (is_same u.path t.path) (tops_new us t) e
  where
    pick : (b : Bool) → (tops_at us t.path ≡ None → tops_at (us ++ t ∷ []) t.path ≡ Some t.tree.tops.items)
        → (if b then Some u.tree.tops.items else tops_at us t.path) ≡ None
        → (if b then Some u.tree.tops.items else tops_at (us ++ t ∷ []) t.path) ≡ Some t.tree.tops.items
    pick true r e = absurd (none-some u.tree.tops.items (sym e))
    pick false r e = r e

pub record IsTextAt (xs : List Included) (p : List ℕ) (x : List Top) : Type 0 where
  pub place : ℕ
  pub text : Included
  pub there : slice_get xs place ≡ Some text
  pub path : text.path ≡ p
  pub tops : text.tree.tops.items ≡ x

pub tops_of : (xs : List Included) (p : List ℕ) (x : List Top) → tops_at xs p ≡ Some x → IsTextAt xs p x
tops_of [] p x e = absurd (none-some x e)
tops_of (t ∷ ts) p x e = pick (is_same t.path p) refl (tops_of ts p x) e
  where
    pick : (b : Bool) → is_same t.path p ≡ b → (tops_at ts p ≡ Some x → IsTextAt ts p x)
        → (if b then Some t.tree.tops.items else tops_at ts p) ≡ Some x → IsTextAt (t ∷ ts) p x
    pick true s r e = record { place = 0; text = t; there = refl; path = same_text t.path p (sym s); tops = same_Some t.tree.tops.items x e }
    pick false s r e = let i = r e in record { place = suc i.place; text = i.text; there = i.there; path = i.path; tops = i.tops }

get_front : {X : Type 0} (xs ys : List X) (n : ℕ) (x : X) → slice_get xs n ≡ Some x → slice_get (xs ++ ys) n ≡ Some x
get_front [] ys n x e = absurd (none-some x e)
get_front (y ∷ xs) ys zero x e = e
get_front (y ∷ xs) ys (suc n) x e = get_front xs ys n x e

get_cases : {X : Type 0} (xs : List X) (x y : X) (n : ℕ) → slice_get (xs ++ x ∷ []) n ≡ Some y → (slice_get xs n ≡ Some y) ⊎ ((n ≡ length xs) × (x ≡ y))
get_cases [] x y zero e = inr (refl, same_Some x y e)
get_cases [] x y (suc n) e = absurd (none-some y e)
get_cases (z ∷ xs) x y zero e = inl e
get_cases (z ∷ xs) x y (suc n) e = elim (get_cases xs x y n e) [
  | inl k ↦ inl k
  | inr k ↦ inr (ap suc k.0, k.1)
]

three : (i n : ℕ) → (i < n) ⊎ ((i ≡ n) ⊎ (n + 1 ≤ i))
three i n = grind arith

bounded_more : (ds : List ℕ) (d i : ℕ) → get_or ds i 0 ≤ d → get_or (ds ++ d ∷ []) i 0 ≤ d
bounded_more ds d i h = elim (three i (length ds)) [
  | inl l ↦ subst (λ (z : ℕ). z ≤ d) (sym (get_or_append_left ds (d ∷ []) 0 i l)) h
  | inr k ↦ elim k [
    | inl e ↦ subst (λ (z : ℕ). z ≤ d) (sym (get_or_push ds d 0 i (sym e))) (omega arith)
    | inr l ↦ subst (λ (z : ℕ). z ≤ d) (sym (get_or_past (ds ++ d ∷ []) i 0 (let q = length-append ds (d ∷ []) in omega arith))) (omega arith)
  ]
]

-- ---- the reader

pub leads_more :
    (first : List ℕ) (source : List Top) (old new : Reader)
    → ((p : List ℕ) (x : List Top) → tops_at old.texts.items p ≡ Some x → tops_at new.texts.items p ≡ Some x)
    → (n : ℕ) (path : List ℕ) (tops : List Top) → Leads (source_of first source old) n path tops → Leads (source_of first source new) n path tops
leads_more first source old new f _ _ _ to_given = to_given
leads_more first source old new f _ _ _ (to_included n path name at tops inner l c e) =
    to_included n path name at tops inner (leads_more first source old new f n path tops l) c (f (target path name) inner e)

pub at_path_weaker : (P Q : List ℕ → Type 0) (e : FilesFault) → ((p : List ℕ) → P p → Q p) → AtPath P e → AtPath Q e
at_path_weaker P Q fault.NoMemory f i = tt
at_path_weaker P Q (fault.Failed p) f i = f p i
at_path_weaker P Q (fault.Lex p x) f i = f p i
at_path_weaker P Q (fault.Parse p x span) f i = f p i

pub at_text : (P : List ℕ → Type 0) (e : FilesFault) → AtPath P e → AtText P e
at_text P fault.NoMemory i = tt
at_text P (fault.Failed p) i = tt
at_text P (fault.Lex p x) i = i
at_text P (fault.Parse p x span) i = i

pub no_text : (P : List ℕ → Type 0) (e : FilesFault) → AtText (λ p. ⊥) e → AtText P e
no_text P fault.NoMemory i = tt
no_text P (fault.Failed p) i = tt
no_text P (fault.Lex p x) i = absurd i
no_text P (fault.Parse p x span) i = absurd i

-- a refusal that is kept while more is asked for
owned_later :
    (old new : Reader) (o p : Option FilesFault) → p ≡ o → ((q : List ℕ) → is_asked old q ≡ true → is_asked new q ≡ true)
    → IfSome o (IsOfAsked old) → IfSome p (IsOfAsked new)
owned_later old new o p e f i = subst (λ (z : Option FilesFault). IfSome z (IsOfAsked new)) (sym e) (pick o i)
  where
    pick : (o : Option FilesFault) → IfSome o (IsOfAsked old) → IfSome o (IsOfAsked new)
    pick None i = tt
    pick (Some x) i = at_path_weaker (λ q. is_asked old q ≡ true) (λ q. is_asked new q ≡ true) x f i

-- what is asked for next, by a text that is led to
module _ (told : Told) (first : List ℕ) (source : List Top) (path : List ℕ) (depth : ℕ) (old new : Reader) (a : Asks told path depth old new) (r : IsReading told first source depth old) where
  widen :
      ((p : List ℕ) (x : List Top) → tops_at old.texts.items p ≡ Some x → tops_at new.texts.items p ≡ Some x)
      → (q : List ℕ) → IsAnswered told old q → IsAnswered told new q
  widen f q (inl s) = inl (a.refused s)
  widen f q (inr (inl (x, e))) = inr (inl (x, f q x e))
  widen f q (inr (inr m)) = inr (inr m)

  reach :
      ((p : List ℕ) (x : List Top) → tops_at old.texts.items p ≡ Some x → tops_at new.texts.items p ≡ Some x)
      → (q : List ℕ) → IsReached (source_of first source old) depth q → IsReached (source_of first source new) depth q
  reach f q i = record {
    depth = i.depth;
    path = i.path;
    tops = i.tops;
    leads = leads_more first source old new f i.depth i.path i.tops i.leads;
    above = i.above;
    named = i.named;
  }

  -- what is known of a new entry
  record IsOwn (i : ℕ) (t : Included) : Type 0 where
    pub leads : Leads (source_of first source new) (depth_at new i) t.path t.tree.tops.items
    pub spelled : IsSpelled told t.path (view_source t.tree)
    pub here : t.path ≡ path

  reading_from :
      ((p : List ℕ) (x : List Top) → tops_at old.texts.items p ≡ Some x → tops_at new.texts.items p ≡ Some x)
      → length new.depths.items ≡ length new.texts.items → ((i : ℕ) → depth_at new i ≤ depth)
      → ((i : ℕ) (t : Included) → slice_get new.texts.items i ≡ Some t → IsKept new old i t ⊎ IsOwn i t)
      → IsReadOnce new.texts.items
      → IsReached (source_of first source old) depth path → IsAnswered told new path → IsReading told first source depth new
  reading_from f s b c x h w = record {
    same_length = s;
    bounded = b;
    entry = λ i t e. elim (c i t e) [
      | inl k ↦
          let o = r.entry i t k.there in
          record {
            leads =
                subst (λ (z : ℕ). Leads (source_of first source new) z t.path t.tree.tops.items) k.depth
                (leads_more first source old new f (depth_at old i) t.path t.tree.tops.items o.leads);
            spelled = o.spelled;
            asked = a.mono t.path o.asked;
          }
      | inr o ↦ record { leads = o.leads; spelled = o.spelled; asked = subst (λ (z : List ℕ). is_asked new z ≡ true) (sym o.here) a.asks }
    ];
    once = x;
    answered = λ q i. elim (a.only q i) [
      | inl o ↦ widen f q (r.answered q o)
      | inr e ↦ subst (λ (z : List ℕ). IsAnswered told new z) (sym e) w
    ];
    reached = λ q i. elim (a.only q i) [
      | inl o ↦ reach f q (r.reached q o)
      | inr e ↦ subst (λ (z : List ℕ). IsReached (source_of first source new) depth z) (sym e) (reach f path h)
    ];
    blamed = a.blamed r.blamed;
    owned = a.owned r.owned;
  }

  -- no text was added
  reading_stays :
      IsReached (source_of first source old) depth path → new.texts.items ≡ old.texts.items → new.depths.items ≡ old.depths.items → (is_asked old path ≡ true) ⊎ (IsSome new.refused ⊎ IsMissing told path)
      → IsReading told first source depth new × Later depth old new
  reading_stays h te de s = (
    reading_from same (ap length de ∙ r.same_length ∙ ap length (sym te)) (λ i. subst (λ (z : List ℕ). get_or z i 0 ≤ depth) (sym de) (r.bounded i))
        (λ i t e. inl (record { there = subst (λ (z : List Included). slice_get z i ≡ Some t) te e; depth = ap (λ (z : List ℕ). get_or z i 0) (sym de) }))
        (subst IsReadOnce (sym te) r.once) h (now s),
    record {
      asked = a.mono;
      kept = λ i t e. record { there = subst (λ (z : List Included). slice_get z i ≡ Some t) (sym te) e; depth = ap (λ (z : List ℕ). get_or z i 0) de };
      each = λ i t e. inl (record { there = subst (λ (z : List Included). slice_get z i ≡ Some t) te e; depth = ap (λ (z : List ℕ). get_or z i 0) (sym de) });
      tops = same;
    },
  )
    where
      same : (p : List ℕ) (x : List Top) → tops_at old.texts.items p ≡ Some x → tops_at new.texts.items p ≡ Some x
      same p x e = subst (λ (z : List Included). tops_at z p ≡ Some x) (sym te) e

      now : (is_asked old path ≡ true) ⊎ (IsSome new.refused ⊎ IsMissing told path) → IsAnswered told new path
      now (inl k) = widen same path (r.answered path k)
      now (inr (inl k)) = inl k
      now (inr (inr k)) = inr (inr k)

  -- a text was added, which a text names that one include fewer leads to
  reading_grows :
      IsReached (source_of first source old) depth path → (n : ℕ) (p : List ℕ) (tops : List Top) → Leads (source_of first source old) n p tops → depth ≡ suc n
      → (name : List ℕ) (at : Span) → Contains tops (Include name at) → path ≡ target p name
      → (tree : Source) → is_asked old path ≡ false
      → new.texts.items ≡ old.texts.items ++ record { path = path; tree = tree } ∷ []
      → new.depths.items ≡ old.depths.items ++ depth ∷ [] → IsSpelled told path (view_source tree)
      → IsReading told first source depth new × Later depth old new
  reading_grows h n p tops l d name at c q tree fresh te de spelled = (
    reading_from more (ap length de ∙ length-append old.depths.items (depth ∷ []) ∙ ap (λ (z : ℕ). z + 1) r.same_length ∙ sym (length-append old.texts.items (t ∷ [])) ∙ ap length (sym te))
        (λ i. subst (λ (z : List ℕ). get_or z i 0 ≤ depth) (sym de) (bounded_more old.depths.items depth i (r.bounded i)))
        cases once h
        (inr (inl (tree.tops.items, own))),
    record {
      asked = a.mono;
      kept = λ i u e. record { there = subst (λ (z : List Included). slice_get z i ≡ Some u) (sym te) (get_front old.texts.items (t ∷ []) i u e); depth = front i (slice_get_within old.texts.items i u e) };
      each = λ i u e. elim (get_cases old.texts.items t u i (subst (λ (z : List Included). slice_get z i ≡ Some u) te e)) [
        | inl k ↦ inl (record { there = k; depth = sym (front i (slice_get_within old.texts.items i u k)) })
        | inr k ↦ inr (record {
          fresh = subst (λ (z : Included). is_asked old z.path ≡ false) k.1 fresh;
          at_depth = last i k.0;
          behind = let w = k.0 in omega arith;
        })
      ];
      tops = more;
    },
  )
    where
      t : Included
      t = record { path = path; tree = tree }

      more : (s : List ℕ) (x : List Top) → tops_at old.texts.items s ≡ Some x → tops_at new.texts.items s ≡ Some x
      more s x e = subst (λ (z : List Included). tops_at z s ≡ Some x) (sym te) (tops_more old.texts.items (t ∷ []) s x e)

      front : (i : ℕ) → i < length old.texts.items → depth_at new i ≡ depth_at old i
      front i h = ap (λ (z : List ℕ). get_or z i 0) de ∙ get_or_append_left old.depths.items (depth ∷ []) 0 i (let w = r.same_length in omega arith)

      last : (i : ℕ) → i ≡ length old.texts.items → depth_at new i ≡ depth
      last i h = ap (λ (z : List ℕ). get_or z i 0) de ∙ get_or_push old.depths.items depth 0 i (r.same_length ∙ sym h)

      -- what was not asked for has no text yet
      absent : tops_at old.texts.items path ≡ None
      absent = pick (tops_at old.texts.items path) refl
        where
          pick : (o : Option (List Top)) → tops_at old.texts.items path ≡ o → tops_at old.texts.items path ≡ None
          pick None e = e
          pick (Some x) e =
              let k = tops_of old.texts.items path x e in
              let b : is_asked old path ≡ true = subst (λ (z : List ℕ). is_asked old z ≡ true) k.path (r.entry k.place k.text k.there).asked in
              absurd (let f = fresh in cc)

      own : tops_at new.texts.items path ≡ Some tree.tops.items
      own = subst (λ (z : List Included). tops_at z path ≡ Some tree.tops.items) (sym te) (tops_new old.texts.items t absent)

      leads : Leads (source_of first source new) depth path tree.tops.items
      leads =
          let m : Leads (source_of first source new) n p tops = leads_more first source old new more n p tops l in
          let e : tops_at new.texts.items (target p name) ≡ Some tree.tops.items = subst (λ (z : List ℕ). tops_at new.texts.items z ≡ Some tree.tops.items) q own in
          subst (λ (z : List ℕ). Leads (source_of first source new) depth z tree.tops.items) (sym q)
          (subst (λ (z : ℕ). Leads (source_of first source new) z (target p name) tree.tops.items) (sym d) (to_included n p name at tops tree.tops.items m c e))

      -- the entry that has a path is the old one of that path, or the new one
      unlike : (i : ℕ) (u v : Included) → slice_get old.texts.items i ≡ Some u → t ≡ v → u.path ≡ v.path → ⊥
      unlike i u v e s p =
          let b : is_asked old path ≡ true = subst (λ (z : List ℕ). is_asked old z ≡ true) (p ∙ ap (λ (z : Included). z.path) (sym s)) (r.entry i u e).asked in
          let f = fresh in cc

      once : IsReadOnce new.texts.items
      once i j u v e d p =
          pick (get_cases old.texts.items t u i (subst (λ (z : List Included). slice_get z i ≡ Some u) te e))
          (get_cases old.texts.items t v j (subst (λ (z : List Included). slice_get z j ≡ Some v) te d))
        where
          pick : (slice_get old.texts.items i ≡ Some u) ⊎ ((i ≡ length old.texts.items) × (t ≡ u))
              → (slice_get old.texts.items j ≡ Some v) ⊎ ((j ≡ length old.texts.items) × (t ≡ v)) → i ≡ j
          pick (inl k) (inl m) = r.once i j u v k m p
          pick (inl k) (inr m) = absurd (unlike i u v k m.1 p)
          pick (inr k) (inl m) = absurd (unlike j v u m k.1 (sym p))
          pick (inr k) (inr m) = k.0 ∙ sym m.0

      cases : (i : ℕ) (u : Included) → slice_get new.texts.items i ≡ Some u → IsKept new old i u ⊎ IsOwn i u
      cases i u e = elim (get_cases old.texts.items t u i (subst (λ (z : List Included). slice_get z i ≡ Some u) te e)) [
        | inl k ↦ inl (record { there = k; depth = sym (front i (slice_get_within old.texts.items i u k)) })
        | inr k ↦ inr (record {
          leads = subst (λ (z : Included). Leads (source_of first source new) (depth_at new i) z.path z.tree.tops.items) k.1 (subst (λ (z : ℕ). Leads (source_of first source new) z path tree.tops.items) (sym (last i k.0)) leads);
          spelled = subst (λ (z : Included). IsSpelled told z.path (view_source z.tree)) k.1 spelled;
          here = ap (λ (z : Included). z.path) (sym k.1);
        })
      ]

-- ---- what is asked for

pub asks_seen : (told : Told) (path : List ℕ) (depth : ℕ) (old new : Reader) → Marks path false old new → Asks told path depth old new
asks_seen told path depth old new m = record {
  asks = m.asks;
  mono = m.mono;
  only = m.only;
  settled = stays (ap (λ (z : Vec Included Global). z.items) m.texts) (ap (λ (z : Vec ℕ Global). z.items) m.depths) (inl m.before);
  refused = subst (λ (z : Option FilesFault). IsSome z) (sym m.refused);
  blamed = subst (λ (z : Option FilesFault). IfSome z (λ e. IsBlamed told e)) (sym m.refused);
  owned = owned_later old new old.refused new.refused m.refused m.mono;
  firm = λ e h. m.refused ∙ h;
  fresh = λ h. subst (λ (z : Option FilesFault). IfSome z (AtPath (λ p. p ≡ path))) (sym (m.refused ∙ h)) tt;
}

pub asks_missing : (told : Told) (path : List ℕ) (depth : ℕ) (old new : Reader) → Marks path true old new → IsMissing told path → Asks told path depth old new
asks_missing told path depth old new m i = record {
  asks = m.asks;
  mono = m.mono;
  only = m.only;
  settled = stays (ap (λ (z : Vec Included Global). z.items) m.texts) (ap (λ (z : Vec ℕ Global). z.items) m.depths) (inr (inr i));
  refused = subst (λ (z : Option FilesFault). IsSome z) (sym m.refused);
  blamed = subst (λ (z : Option FilesFault). IfSome z (λ e. IsBlamed told e)) (sym m.refused);
  owned = owned_later old new old.refused new.refused m.refused m.mono;
  firm = λ e h. m.refused ∙ h;
  fresh = λ h. subst (λ (z : Option FilesFault). IfSome z (AtPath (λ p. p ≡ path))) (sym (m.refused ∙ h)) tt;
}

pub asks_kept :
    (told : Told) (path : List ℕ) (depth : ℕ) (old mid new : Reader) (tree : Source) → Marks path true old mid
    → Adds (record { path = path; tree = tree }) depth mid new → IsSpelled told path (view_source tree) → Asks told path depth old new
asks_kept told path depth old mid new tree m k s =
    let asked : (q : List ℕ) → is_asked new q ≡ is_asked mid q = λ q. ap (λ (z : BTreeSet (List ℕ)). contains (slice_cmp nat_cmp) z q) k.asked in
    record {
      asks = asked path ∙ m.asks;
      mono = λ q h. asked q ∙ m.mono q h;
      only = λ q h. m.only q (sym (asked q) ∙ h);
      settled = grows tree m.before (k.texts ∙ ap (λ (z : Vec Included Global). z.items ++ record { path = path; tree = tree } ∷ []) m.texts) (k.depths ∙ ap (λ (z : Vec ℕ Global). z.items ++ depth ∷ []) m.depths) s;
      refused = subst (λ (z : Option FilesFault). IsSome z) (sym (k.refused ∙ m.refused));
      blamed = subst (λ (z : Option FilesFault). IfSome z (λ e. IsBlamed told e)) (sym (k.refused ∙ m.refused));
      owned = owned_later old new old.refused new.refused (k.refused ∙ m.refused) (λ q h. asked q ∙ m.mono q h);
      firm = λ e h. k.refused ∙ m.refused ∙ h;
      fresh = λ h. subst (λ (z : Option FilesFault). IfSome z (AtPath (λ p. p ≡ path))) (sym (k.refused ∙ m.refused ∙ h)) tt;
    }

pub asks_refused :
    (told : Told) (path : List ℕ) (depth : ℕ) (old mid new : Reader) (f : FilesFault) (before now : ℕ) → Marks path true old mid
    → Keeps f mid new → IsRefusal told before now f → AtPath (λ p. p ≡ path) f → Asks told path depth old new
asks_refused told path depth old mid new f before now m k i own =
    let asked : (q : List ℕ) → is_asked new q ≡ is_asked mid q = λ q. ap (λ (z : BTreeSet (List ℕ)). contains (slice_cmp nat_cmp) z q) k.asked in
    record {
      asks = asked path ∙ m.asks;
      mono = λ q h. asked q ∙ m.mono q h;
      only = λ q h. m.only q (sym (asked q) ∙ h);
      settled = stays (ap (λ (z : Vec Included Global). z.items) (k.texts ∙ m.texts)) (ap (λ (z : Vec ℕ Global). z.items) (k.depths ∙ m.depths)) (inr (inl k.some));
      refused = λ s. k.some;
      firm = λ e h. k.firm e (m.refused ∙ h);
      fresh = λ h. subst (λ (z : Option FilesFault). IfSome z (AtPath (λ p. p ≡ path))) (sym (k.fresh (m.refused ∙ h))) own;
      owned = λ b. k.owned
          (at_path_weaker (λ q. q ≡ path) (λ q. is_asked mid q ≡ true) f (λ q e. subst (λ (z : List ℕ). is_asked mid z ≡ true) (sym e) m.asks) own)
          (owned_later old mid old.refused mid.refused m.refused m.mono b);
      blamed = λ b. k.blamed told before now i (subst (λ (z : Option FilesFault). IfSome z (λ e. IsBlamed told e)) (sym m.refused) b);
    }

-- a path that is named is that of an include
pub record IsNamed (path : List ℕ) (tops : List Top) (q : List ℕ) : Type 0 where
  pub name : List ℕ
  pub at : Span
  pub stands : Contains tops (Include name at)
  pub is : q ≡ target path name

there : {X : Type 0} (x y : X) (xs : List X) → Contains xs y → Contains (x ∷ xs) y
there x y xs c = let l = c.1 in (suc c.0, omega arith, c.2)

pub named_include : (path : List ℕ) (tops : List Top) (q : List ℕ) → Contains (targets path tops) q → IsNamed path tops q
named_include path [] q c = let l = c.1 in absurd (omega arith)
named_include path (Declare d ∷ tops) q c =
    let i = named_include path tops q c in record { name = i.name; at = i.at; stands = there (Declare d) (Include i.name i.at) tops i.stands; is = i.is }
named_include path (Define f ∷ tops) q c =
    let i = named_include path tops q c in record { name = i.name; at = i.at; stands = there (Define f) (Include i.name i.at) tops i.stands; is = i.is }
named_include path (Include name at ∷ tops) q (zero, l, e) = record { name = name; at = at; stands = (zero, omega arith, refl); is = sym e }
named_include path (Include name at ∷ tops) q (suc k, l, e) =
    let i = named_include path tops q (k, omega arith, e) in
    record { name = i.name; at = i.at; stands = there (Include name at) (Include i.name i.at) tops i.stands; is = i.is }

pub reading_asks :
    (told : Told) (first : List ℕ) (source : List Top) (path : List ℕ) (depth : ℕ) (old new : Reader) → Asks told path depth old new
    → IsReading told first source depth old → (n : ℕ) (p : List ℕ) (tops : List Top) → Leads (source_of first source old) n p tops → depth ≡ suc n
    → Contains (targets p tops) path → IsReading told first source depth new × Later depth old new
reading_asks told first source path depth old new a r n p tops l d c = pick a.settled
  where
    h : IsReached (source_of first source old) depth path
    h = record { depth = n; path = p; tops = tops; leads = l; above = omega arith; named = c }

    pick : Settles told path depth old new → IsReading told first source depth new × Later depth old new
    pick (stays te de s) = reading_stays told first source path depth old new a r h te de s
    pick (grows tree fresh te de s) =
        let i = named_include p tops path c in
        reading_grows told first source path depth old new a r h n p tops l d i.name i.at i.stands i.is tree fresh te de s

unasked : (old mid : Reader) (p : List ℕ) → ((q : List ℕ) → is_asked old q ≡ true → is_asked mid q ≡ true) → is_asked mid p ≡ false → is_asked old p ≡ false
unasked old mid p f h = pick (is_asked old p) refl
  where
    pick : (b : Bool) → is_asked old p ≡ b → is_asked old p ≡ false
    pick true e = absurd (let g = f p e in cc)
    pick false e = e

pub later_same : (depth : ℕ) (r : Reader) → Later depth r r
later_same depth r = record {
  asked = λ q h. h;
  kept = λ i t e. record { there = e; depth = refl };
  each = λ i t e. inl (record { there = e; depth = refl });
  tops = λ p x e. e;
}

pub later_then : (depth : ℕ) (a b c : Reader) → length a.texts.items ≤ length b.texts.items → Later depth a b → Later depth b c → Later depth a c
later_then depth a b c h l m = record {
  asked = λ q e. m.asked q (l.asked q e);
  kept = λ i t e. let k = l.kept i t e in let j = m.kept i t k.there in record { there = j.there; depth = j.depth ∙ k.depth };
  each = λ i t e. elim (m.each i t e) [
    | inl k ↦ elim (l.each i t k.there) [
      | inl j ↦ inl (record { there = j.there; depth = j.depth ∙ k.depth })
      | inr n ↦ inr (record { fresh = n.fresh; at_depth = sym k.depth ∙ n.at_depth; behind = n.behind })
    ]
    | inr n ↦ inr (record { fresh = unasked a b t.path l.asked n.fresh; at_depth = n.at_depth; behind = let w = n.behind in omega arith })
  ];
  tops = λ p x e. m.tops p x (l.tops p x e);
}

-- what an insertion says
pub marks_of :
    (path : List ℕ) (fresh : Bool) (old new : Reader) → new.texts ≡ old.texts → new.depths ≡ old.depths → new.refused ≡ old.refused
    → fresh ≡ not (contains (slice_cmp nat_cmp) old.asked path) → Updates (slice_cmp nat_cmp) old.asked new.asked path true → Marks path fresh old new
marks_of path fresh old new t d r f u = record {
  texts = t;
  depths = d;
  refused = r;
  asks = u.1;
  mono = λ q h. u.0 q ∙ ap (λ (b : Bool). cond (is_at (slice_cmp nat_cmp path) q) true b) h ∙ always (is_at (slice_cmp nat_cmp path) q);
  only = λ q h. pick q (is_at (slice_cmp nat_cmp path) q) refl (sym (u.0 q) ∙ h);
  before = sym (twice (is_asked old path)) ∙ ap not (sym f);
}
  where
    always : (b : Bool) → cond b true true ≡ true
    always true = refl
    always false = refl

    twice : (b : Bool) → not (not b) ≡ b
    twice true = refl
    twice false = refl

    pick : (q : List ℕ) (b : Bool) → is_at (slice_cmp nat_cmp path) q ≡ b → cond (is_at (slice_cmp nat_cmp path) q) true (is_asked old q) ≡ true
        → (is_asked old q ≡ true) ⊎ (q ≡ path)
    pick q true e h = inr (sym (same_text path q (sym (texts_ties path q ∙ e))))
    pick q false e h = inl (sym (ap (λ (b : Bool). cond b true (is_asked old q)) e) ∙ h)

pub asks_longer : (told : Told) (path : List ℕ) (depth : ℕ) (old new : Reader) → Asks told path depth old new → length old.texts.items ≤ length new.texts.items
asks_longer told path depth old new a = pick a.settled
  where
    pick : Settles told path depth old new → length old.texts.items ≤ length new.texts.items
    pick (stays te de s) = let e = ap length te in omega arith
    pick (grows tree fresh te de s) =
        let e : length new.texts.items ≡ length old.texts.items + 1 = ap length te ∙ length-append old.texts.items (record { path = path; tree = tree } ∷ []) in omega arith

pub taken_cases : {X : Type 0} (xs : List X) (i : ℕ) (x y : X) → i < length xs → x ≡ get_or xs i x → Contains (take (i + 1) xs) y → Contains (take i xs) y ⊎ (x ≡ y)
taken_cases {X} xs i x y l e c =
    Contains-push_cases (take i xs) x y (subst (λ (z : List X). Contains z y) (take_more xs i x l ∙ ap (λ (z : X). take i xs ++ z ∷ []) (sym e)) c)

-- the first refusal of a text that is kept is of what is asked for
pub fresh_then :
    (named : List (List ℕ)) (path : List ℕ) (b c : Option FilesFault) → Contains named path → IfSome b (AtPath (Contains named))
    → ((e : FilesFault) → b ≡ Some e → c ≡ Some e) → (b ≡ None → IfSome c (AtPath (λ p. p ≡ path))) → IfSome c (AtPath (Contains named))
fresh_then named path b c k h firm fresh = pick b refl
  where
    here : (o : Option FilesFault) → IfSome o (AtPath (λ p. p ≡ path)) → IfSome o (AtPath (Contains named))
    here None i = tt
    here (Some e) i = at_path_weaker (λ p. p ≡ path) (Contains named) e (λ p s. subst (Contains named) (sym s) k) i

    pick : (o : Option FilesFault) → b ≡ o → IfSome c (AtPath (Contains named))
    pick None s = here c (fresh s)
    pick (Some e) s =
        subst (λ (z : Option FilesFault). IfSome z (AtPath (Contains named))) (sym (firm e s))
        (subst (λ (z : Option FilesFault). IfSome z (AtPath (Contains named))) s h)
