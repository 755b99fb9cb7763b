-- What is read depth by depth.
use Rattle.std.proofs.Common.{◌≡◌, ℕ, zero, suc, ◌<◌, ◌≤◌, ◌⊎◌, inl, inr, true, false, List, [], ◌∷◌, length, get_or, Option, None, Some, IsSome, Vec, Global, refl, sym, ap, subst, ◌∙◌, arith}
use Rattle.std.specs.Prelude.{slice_get}
use Rattle.std.specs.List.{Contains, list_any}
use Rattle.std.specs.Ordering.{nat_cmp}
use Rattle.std.specs.Cmp.Lexicographic.{slice_cmp}
use Rattle.std.specs.BTreeSet.{BTreeSet, IsEmpty}
use Rattle.std.specs.BTreeMap.{is_at}
use Rattle.std.proofs.lemmas.Option.{same_Some, none-some, slice_get_within, slice_get-get_or}
use Rattle.inf_ports.specs.Outside.{Told}
use Rattle.inf_text.specs.declared.span.Span.{Span}
use Rattle.limbo_tree.specs.declared.source.Top.{Top}
use Rattle.limbo_tree.specs.declared.source.Top.TheVariants.{Include, Declare, Define}
use Rattle.limbo_includes.specs.declared.included.Included.{Included}
use Rattle.limbo_includes.specs.Includes.{target, tops_at, Leads, to_given, to_included, most, Given}
use Rattle.source_files.specs.declared.reader.Reader.{Reader}
use Rattle.std.specs.Option.{IfSome}
use Rattle.source_files.specs.Files.{IsMissing, IsBlamed, IsRefusal, AtPath, AtText}
use Rattle.source_files.specs.declared.fault.FilesFault.{FilesFault}
use Rattle.source_files.specs.declared.fault.FilesFault.TheVariants as fault
use Rattle.source_files.specs.Reading.{targets, is_asked, depth_at, source_of, IsReached, IsReachable, IsOfAsked, IsNamedBy, IsAnswered, IsReading, IsKept, IsNew, Later, AsksAll, IsRead, IsReadWhole, IsFirst}
use Rattle.source_files.specs.Levels.{IsDone, IsLevel, IsAmid, ReadsFrom, ReadsAll, IsSettled, IsNamedAt, IsFirstKept}
use Rattle.source_files.proofs.Readers.{tops_of, at_path_weaker, at_text}
use Rattle.source_files.proofs.Firsts.{some_weaker, first_wider, amid_blame, source_blame}

-- ---- refusals

pub refusal_wider : (told : Told) (before middle now : ℕ) (e : FilesFault) → before ≤ middle → IsRefusal told middle now e → IsRefusal told before now e
refusal_wider told before middle now fault.NoMemory h i = tt
refusal_wider told before middle now (fault.Failed path) h i = omega arith
refusal_wider told before middle now (fault.Lex path f) h i = i
refusal_wider told before middle now (fault.Parse path f span) h i = i

pub blamed_refusal : (told : Told) (before now : ℕ) (e : FilesFault) → IsBlamed told e → IsRefusal told before now e
blamed_refusal told before now fault.NoMemory i = tt
blamed_refusal told before now (fault.Failed path) i = absurd i
blamed_refusal told before now (fault.Lex path f) i = i
blamed_refusal told before now (fault.Parse path f span) i = i

-- ---- one text's includes

pub done_later : (path : List ℕ) (tops : List Top) (n depth : ℕ) (old new : Reader) → IsDone path tops n old → Later depth old new → IsDone path tops n new
done_later path tops n depth old new d l = record {
  asked = λ q c. l.asked q (d.asked q c);
  near = λ q i t c e p. elim (l.each i t e) [
    | inl k ↦ subst (λ (z : ℕ). z ≤ suc n) k.depth (d.near q i t c k.there p)
    | inr w ↦
        let a : is_asked old t.path ≡ true = subst (λ (z : List ℕ). is_asked old z ≡ true) (sym p) (d.asked q c) in
        absurd (let f = w.fresh in cc)
  ];
}

-- what all that a text names being asked for says
pub done_of :
    (told : Told) (first : List ℕ) (source : List Top) (path : List ℕ) (tops : List Top) (n depth : ℕ) (r : Reader) → depth ≡ suc n
    → ((q : List ℕ) → Contains (targets path tops) q → is_asked r q ≡ true) → IsReading told first source depth r → IsDone path tops n r
done_of told first source path tops n depth r d a g = record {
  asked = a;
  near = λ q i t c e p. let b = g.bounded i in omega arith;
}

pub reads_from :
    (told : Told) (index depth : ℕ) (t : Included) (named : List (List ℕ)) (old new : Reader) → slice_get old.texts.items index ≡ Some t
    → named ≡ targets t.path t.tree.tops.items → AsksAll told named depth old new → ReadsFrom told index depth old new
reads_from told index depth t named old new e same a = record {
  longer = a.longer;
  firm = a.firm;
  fresh = λ none. some_weaker new.refused (AtPath (Contains named)) (AtPath (IsNamedBy old index))
      (λ f i. at_path_weaker (Contains named) (IsNamedBy old index) f (λ q k. (t, e, subst (λ (z : List (List ℕ)). Contains z q) same k)) i)
      (a.fresh none);
  reads = λ first source u eu d r.
      let l = (r.entry index t e).leads in
      let k = a.reading first source (depth_at old index) t.path t.tree.tops.items l d (λ q c. subst (λ (z : List (List ℕ)). Contains z q) same c) r in
      let f = done_of told first source t.path t.tree.tops.items (depth_at old index) depth new d (λ q c. a.asks q (subst (λ (z : List (List ℕ)). Contains z q) (sym same) c)) k.0 in
      let s : Some t ≡ Some u = sym e ∙ eu in
      (k.0, k.1, subst (λ (z : Included). IsDone z.path z.tree.tops.items (depth_at old index) new) (same_Some t u s) f);
}

-- ---- the given source

-- nothing was read yet
pub record IsFresh (r : Reader) : Type 0 where
  pub texts : r.texts.items ≡ []
  pub depths : r.depths.items ≡ []
  pub asked : IsEmpty r.asked
  pub refused : r.refused ≡ None

nothing_asked : (r : Reader) → IsFresh r → (q : List ℕ) → is_asked r q ≡ true → ⊥
nothing_asked r f q h =
    let e : is_asked r q ≡ false = ap (λ (ks : List (List ℕ)). list_any (is_at (slice_cmp nat_cmp q)) ks) f.asked in cc

nothing_there : (r : Reader) → IsFresh r → (i : ℕ) (t : Included) → slice_get r.texts.items i ≡ Some t → ⊥
nothing_there r f i t e = none-some t (subst (λ (z : List Included). slice_get z i ≡ Some t) f.texts e)

fresh_reading : (told : Told) (first : List ℕ) (source : List Top) (r : Reader) → IsFresh r → IsReading told first source 1 r
fresh_reading told first source r f = record {
  same_length = ap length f.depths ∙ sym (ap length f.texts);
  bounded = λ i. subst (λ (z : List ℕ). get_or z i 0 ≤ 1) (sym f.depths) (omega arith);
  entry = λ i t e. absurd (nothing_there r f i t e);
  once = λ i j t u e d p. absurd (nothing_there r f i t e);
  answered = λ q h. absurd (nothing_asked r f q h);
  reached = λ q h. absurd (nothing_asked r f q h);
  blamed = subst (λ (z : Option FilesFault). IfSome z (λ e. IsBlamed told e)) (sym f.refused) tt;
  owned = subst (λ (z : Option FilesFault). IfSome z (IsOfAsked r)) (sym f.refused) tt;
}

pub first_level :
    (told : Told) (first : List ℕ) (source : List Top) (named : List (List ℕ)) (old new : Reader) → IsFresh old
    → named ≡ targets first source → AsksAll told named 1 old new → IsLevel told first source 1 0 new
first_level told first source named old new f same a =
    let k = a.reading first source 0 first source to_given refl (λ q c. subst (λ (z : List (List ℕ)). Contains z q) same c) (fresh_reading told first source old f) in
    record {
      reading = k.0;
      blame = source_blame told first source named old new f.refused same a;
      done = record {
        given = done_of told first source first source 0 1 new refl (λ q c. a.asks q (subst (λ (z : List (List ℕ)). Contains z q) (sym same) c)) k.0;
        each = λ i t b e. absurd (omega arith);
      };
      last = λ i t e b. elim (k.1.each i t e) [
        | inl s ↦ absurd (nothing_there old f i t s.there)
        | inr n ↦ n.at_depth
      ];
    }

-- ---- one depth

reached_deeper : (g : Given) (m n : ℕ) (q : List ℕ) → m ≤ n → IsReached g m q → IsReached g n q
reached_deeper g m n q h i = record {
  depth = i.depth;
  path = i.path;
  tops = i.tops;
  leads = i.leads;
  above = let b = i.above in omega arith;
  named = i.named;
}

pub amid_begins : (told : Told) (first : List ℕ) (source : List Top) (depth begin : ℕ) (r : Reader) → (end : ℕ) → end ≡ length r.texts.items
    → IsLevel told first source depth begin r → IsAmid told first source depth begin end r
amid_begins told first source depth begin r end w l = record {
  reading = record {
    same_length = l.reading.same_length;
    bounded = λ i. let b = l.reading.bounded i in omega arith;
    entry = l.reading.entry;
    once = l.reading.once;
    answered = l.reading.answered;
    reached = λ q h. reached_deeper (source_of first source r) depth (suc depth) q (omega arith) (l.reading.reached q h);
    blamed = l.reading.blamed;
    owned = l.reading.owned;
  };
  blame = some_weaker r.refused (IsFirstKept told first source depth r) (IsFirstKept told first source (suc depth) r)
      (first_wider told first source depth r) l.blame;
  done = l.done;
  middle = λ i t e b h. l.last i t e b;
  last = λ i t e h. let b = slice_get_within r.texts.items i t e in absurd (omega arith);
}

below_or_at : (i index : ℕ) → i < suc index → (i < index) ⊎ (i ≡ index)
below_or_at i index h = grind arith

there_at : {X : Type 0} (xs : List X) (i : ℕ) → i < length xs → (x : X) × (slice_get xs i ≡ Some x)
there_at [] i h = absurd (omega arith)
there_at (x ∷ xs) zero h = (x, refl)
there_at (x ∷ xs) (suc i) h = there_at xs i (omega arith)

pub amid_goes : (told : Told) (first : List ℕ) (source : List Top) (depth index end : ℕ) (old new : Reader) → IsAmid told first source depth index end old
    → index < end → end ≤ length old.texts.items → ReadsFrom told index (suc depth) old new → IsAmid told first source depth (suc index) end new
amid_goes told first source depth index end old new a h w f = record {
  reading = k.0;
  blame = amid_blame told first source depth index end old new a h k.1 f.firm f.fresh;
  done = record {
    given = done_later first source 0 (suc depth) old new a.done.given k.1;
    each = λ i t b e. each i t (below_or_at i index b) (k.1.each i t e);
  };
  middle = λ i t e b c. elim (k.1.each i t e) [
    | inl s ↦ sym s.depth ∙ a.middle i t s.there (omega arith) c
    | inr n ↦ let x = n.behind in absurd (omega arith)
  ];
  last = λ i t e b. elim (k.1.each i t e) [
    | inl s ↦ sym s.depth ∙ a.last i t s.there b
    | inr n ↦ n.at_depth
  ];
}
  where
    t : (t : Included) × (slice_get old.texts.items index ≡ Some t)
    t = there_at old.texts.items index (omega arith)

    at : depth_at old index ≡ depth
    at = a.middle index t.0 t.1 (omega arith) h

    k : IsReading told first source (suc depth) new × Later (suc depth) old new × IsDone t.0.path t.0.tree.tops.items (depth_at old index) new
    k = f.reads first source t.0 t.1 (ap suc (sym at)) a.reading

    each : (i : ℕ) (u : Included) → (i < index) ⊎ (i ≡ index) → IsKept new old i u ⊎ IsNew (suc depth) old new i u → IsDone u.path u.tree.tops.items (depth_at new i) new
    each i u b (inr n) = let x = n.behind in absurd (elim b [ inl l ↦ omega arith | inr l ↦ omega arith ])
    each i u (inl b) (inl s) =
        subst (λ (z : ℕ). IsDone u.path u.tree.tops.items z new) s.depth
        (done_later u.path u.tree.tops.items (depth_at old i) (suc depth) old new (a.done.each i u b s.there) k.1)
    each i u (inr b) (inl s) =
        let e : slice_get old.texts.items i ≡ Some t.0 = subst (λ (z : ℕ). slice_get old.texts.items z ≡ Some t.0) (sym b) t.1 in
        let x : t.0 ≡ u = same_Some t.0 u (sym e ∙ s.there) in
        let d : depth_at old index ≡ depth_at new i = ap (λ (z : ℕ). depth_at old z) (sym b) ∙ s.depth in
        subst (λ (z : ℕ). IsDone u.path u.tree.tops.items z new) d (subst (λ (z : Included). IsDone z.path z.tree.tops.items (depth_at old index) new) x k.2)

pub amid_ends : (told : Told) (first : List ℕ) (source : List Top) (depth index end : ℕ) (r : Reader) → end ≤ index
    → IsAmid told first source depth index end r → IsLevel told first source (suc depth) end r
amid_ends told first source depth index end r h a = record {
  reading = a.reading;
  blame = a.blame;
  done = record { given = a.done.given; each = λ i t b e. a.done.each i t (omega arith) e };
  last = a.last;
}

reading_texts :
    (told : Told) (first : List ℕ) (source : List Top) (bound : ℕ) (r : Reader) → bound ≤ most → IsReading told first source bound r
    → (t : Included) → Contains r.texts.items t → IsRead told (source_of first source r) t
reading_texts told first source bound r h l t c =
    let e : slice_get r.texts.items c.0 ≡ Some t = slice_get-get_or r.texts.items c.0 t c.1 ∙ ap (λ (z : Included). Some z) c.2 in
    let i = l.entry c.0 t e in
    let b = l.bounded c.0 in
    record { depth = depth_at r c.0; shallow = omega (arith, b, h); leads = i.leads; spelled = i.spelled }

-- The refusal that ends the reading within a depth.
pub amid_refused :
    (told : Told) (first : List ℕ) (source : List Top) (depth index end : ℕ) (r : Reader) (e : FilesFault) → suc depth ≤ most → index < end
    → IsAmid told first source depth index end r → AtPath (IsNamedBy r index) e → AtPath (IsReachable told first source) e
amid_refused told first source depth index end r e h b a = at_path_weaker (IsNamedBy r index) (IsReachable told first source) e reach
  where
    reach : (q : List ℕ) → IsNamedBy r index q → IsReachable told first source q
    reach q (t, there, named) = record {
      included = r.texts.items;
      read = reading_texts told first source (suc depth) r h a.reading;
      reached = record {
        depth = depth_at r index;
        path = t.path;
        tops = t.tree.tops.items;
        leads = (a.reading.entry index t there).leads;
        above = let d = a.middle index t there (omega arith) b in omega arith;
        named = named;
      };
    }

-- The refusal that is kept to the end.
pub level_refused :
    (told : Told) (first : List ℕ) (source : List Top) (begin : ℕ) (r : Reader) (e : FilesFault) → IsLevel told first source most begin r
    → r.refused ≡ Some e → AtPath (IsReachable told first source) e
level_refused told first source begin r e l is =
    at_path_weaker (λ q. is_asked r q ≡ true) (IsReachable told first source) e
    (λ q h. record {
      included = r.texts.items;
      read = reading_texts told first source most r (omega arith) l.reading;
      reached = l.reading.reached q h;
    })
    (subst (λ (z : Option FilesFault). IfSome z (IsOfAsked r)) is l.reading.owned)

-- The refusal that ends the reading of the texts that the given source names.
pub first_refused :
    (told : Told) (first : List ℕ) (source : List Top) (named : List (List ℕ)) (e : FilesFault) → named ≡ targets first source
    → AtPath (Contains named) e → AtPath (IsReachable told first source) e
first_refused told first source named e same =
    at_path_weaker (Contains named) (IsReachable told first source) e
    (λ q c. record {
      included = [];
      read = λ t k. let b = k.1 in absurd (omega arith);
      reached = record {
        depth = 0;
        path = first;
        tops = source;
        leads = to_given;
        above = omega arith;
        named = subst (λ (z : List (List ℕ)). Contains z q) same c;
      };
    })

-- ---- the whole

-- A text that is led to was read, or is the given one.
record IsHeld (r : Reader) (n : ℕ) (path : List ℕ) (tops : List Top) : Type 0 where
  pub place : ℕ
  pub text : Included
  pub there : slice_get r.texts.items place ≡ Some text
  pub same_path : text.path ≡ path
  pub same_tops : text.tree.tops.items ≡ tops
  pub near : depth_at r place ≤ n

target_named : (path : List ℕ) (tops : List Top) (name : List ℕ) (at : Span) → Contains tops (Include name at) → Contains (targets path tops) (target path name)
target_named path [] name at c = let l = c.1 in absurd (omega arith)
target_named path (Declare d ∷ tops) name at (zero, l, e) = absurd (cc)
target_named path (Declare d ∷ tops) name at (suc k, l, e) = target_named path tops name at (k, omega arith, e)
target_named path (Define f ∷ tops) name at (zero, l, e) = absurd (cc)
target_named path (Define f ∷ tops) name at (suc k, l, e) = target_named path tops name at (k, omega arith, e)
target_named path (Include m a ∷ tops) name at (zero, l, e) = let x : m ≡ name = (cc) in (zero, omega arith, ap (λ (z : List ℕ). target path z) x)
target_named path (Include m a ∷ tops) name at (suc k, l, e) =
    let c = target_named path tops name at (k, omega arith, e) in
    let b = c.1 in (suc c.0, omega arith, c.2)

done_weaker : (path : List ℕ) (tops : List Top) (m n : ℕ) (r : Reader) → m ≤ n → IsDone path tops m r → IsDone path tops n r
done_weaker path tops m n r h d = record {
  asked = d.asked;
  near = λ q i t c e p. let b = d.near q i t c e p in omega arith;
}

below_or_from : (i begin : ℕ) → (i < begin) ⊎ (begin ≤ i)
below_or_from i begin = grind arith

-- all texts of less than the depth are done
module _ (told : Told) (first : List ℕ) (source : List Top) (depth begin : ℕ) (r : Reader) (l : IsLevel told first source depth begin r) where
  held_done : (n : ℕ) (path : List ℕ) (tops : List Top) → n < depth → ((path ≡ first) × (tops ≡ source)) ⊎ IsHeld r n path tops → IsDone path tops n r
  held_done n path tops h (inl s) =
      subst (λ (z : List ℕ). IsDone z tops n r) (sym s.0)
      (subst (λ (z : List Top). IsDone first z n r) (sym s.1) (done_weaker first source 0 n r (omega arith) l.done.given))
  held_done n path tops h (inr k) =
      subst (λ (z : List ℕ). IsDone z tops n r) k.same_path
      (subst (λ (z : List Top). IsDone k.text.path z n r) k.same_tops
      (done_weaker k.text.path k.text.tree.tops.items (depth_at r k.place) n r k.near (l.done.each k.place k.text (before k (below_or_from k.place begin)) k.there)))
    where
      before : (k : IsHeld r n path tops) → (k.place < begin) ⊎ (begin ≤ k.place) → k.place < begin
      before k (inl b) = b
      before k (inr b) = let e = l.last k.place k.text k.there b in let w = k.near in absurd (omega arith)

  led_held : (n : ℕ) (path : List ℕ) (tops : List Top) → Leads (source_of first source r) n path tops → n ≤ depth
      → ((path ≡ first) × (tops ≡ source)) ⊎ IsHeld r n path tops
  led_held _ _ _ to_given h = inl (refl, refl)
  led_held _ _ _ (to_included n path name at tops inner k c e) h =
      let d = held_done n path tops (omega arith) (led_held n path tops k (omega arith)) in
      let i = tops_of r.texts.items (target path name) inner e in
      inr (record {
        place = i.place;
        text = i.text;
        there = i.there;
        same_path = i.path;
        same_tops = i.tops;
        near = d.near (target path name) i.place i.text (target_named path tops name at c) i.there i.path;
      })

  -- what is named less deep than the depth is answered
  all_answered : (n : ℕ) (path : List ℕ) (tops : List Top) (q : List ℕ) → Leads (source_of first source r) n path tops → n < depth
      → Contains (targets path tops) q → IsAnswered told r q
  all_answered n path tops q k h c = l.reading.answered q ((held_done n path tops h (led_held n path tops k (omega arith))).asked q c)

pub level_whole :
    (told : Told) (first : List ℕ) (source : List Top) (begin : ℕ) (r : Reader) → IsLevel told first source most begin r → r.refused ≡ None
    → IsReadWhole told (source_of first source r)
level_whole told first source begin r l none = λ n path tops q k h c. pick q (all_answered told first source most begin r l n path tops q k h c)
  where
    pick : (q : List ℕ) → IsAnswered told r q → ((inner : List Top) × (tops_at r.texts.items q ≡ Some inner)) ⊎ IsMissing told q
    pick q (inl s) = absurd (let b : IsSome {T = FilesFault} None = subst (λ (z : Option FilesFault). IsSome z) none s in cc)
    pick q (inr a) = a

pub level_read :
    (told : Told) (first : List ℕ) (source : List Top) (begin : ℕ) (r : Reader) → IsLevel told first source most begin r
    → (t : Included) → Contains r.texts.items t → IsRead told (source_of first source r) t
level_read told first source begin r l = reading_texts told first source most r (omega arith) l.reading

-- What the given source names was read, by a reader that had read nothing.
pub source_read :
    (told : Told) (first : List ℕ) (source : List Top) (named : List (List ℕ)) (texts : Vec Included Global) (depths : Vec ℕ Global)
    (asked : BTreeSet (List ℕ)) (middle : Reader) → texts.items ≡ [] → depths.items ≡ [] → IsEmpty asked → named ≡ targets first source
    → AsksAll told named 1 (record { texts = texts; depths = depths; asked = asked; refused = None }) middle
    → IsLevel told first source 1 0 middle
source_read told first source named texts depths asked middle et ed ea same a =
    let f : IsFresh (record { texts = texts; depths = depths; asked = asked; refused = None }) =
    record { texts = et; depths = ed; asked = ea; refused = refl } in
    first_level told first source named (record { texts = texts; depths = depths; asked = asked; refused = None }) middle f same a

-- All was read, from there on.
pub all_read :
    (told after : Told) (first : List ℕ) (source : List Top) (middle new : Reader) → IsLevel told first source 1 0 middle → after ≡ told
    → ReadsAll after most middle new → (begin : ℕ) × IsLevel told first source most begin new
all_read told after first source middle new l kept a =
    let m = subst (λ (z : Told). ReadsAll z most middle new) kept a in
    (m.begin, m.reads first source l)

-- The refusal that is kept to the end is of a text than which none that was refused is named by less deep texts.
pub level_first :
    (told : Told) (first : List ℕ) (source : List Top) (begin : ℕ) (r : Reader) (e : FilesFault) → IsLevel told first source most begin r
    → r.refused ≡ Some e → AtText (IsFirst told first source) e
level_first told first source begin r e l is =
    at_text (IsFirst told first source) e (at_path_weaker (IsNamedAt (source_of first source r) k.depth) (IsFirst told first source) e
    (λ q n. record {
      included = r.texts.items;
      read = reading_texts told first source most r (omega arith) l.reading;
      reached = record { depth = k.depth; path = n.path; tops = n.tops; leads = n.leads; above = k.above; named = n.named };
      whole = λ m path tops p leads h c. whole m path tops p h c (led_held told first source most begin r l m path tops leads (let b = k.above in omega arith));
    })
    k.named)
  where
    k : IsFirstKept told first source most r e
    k = subst (λ (z : Option FilesFault). IfSome z (IsFirstKept told first source most r)) is l.blame

    whole :
        (m : ℕ) (path : List ℕ) (tops : List Top) (p : List ℕ) → m < k.depth → Contains (targets path tops) p
        → ((path ≡ first) × (tops ≡ source)) ⊎ IsHeld r m path tops → IsSettled told r p
    whole m path tops p h c (inl s) =
        k.clear.given p (omega arith)
        (subst (λ (z : List ℕ). Contains (targets z source) p) s.0 (subst (λ (z : List Top). Contains (targets path z) p) s.1 c))
    whole m path tops p h c (inr x) =
        k.clear.each x.place x.text p x.there (let b = x.near in omega arith)
        (subst (λ (z : List ℕ). Contains (targets z x.text.tree.tops.items) p) (sym x.same_path)
        (subst (λ (z : List Top). Contains (targets path z) p) (sym x.same_tops) c))
