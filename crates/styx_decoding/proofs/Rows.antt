-- The two laws for each message: what is read is spelled so, and what is spelled so is read.
use Rattle.std.proofs.Common.{◌≡◌, ℕ, ◌+◌, ◌^◌, ◌<◌, ◌≤◌, Bool, true, false, cond, ltb, eqb, List, [], ◌∷◌}
use Rattle.std.proofs.Common.{◌++◌, length, take, drop, Option, Some, None, refl, sym, ap, subst, ◌∙◌}
use Rattle.std.proofs.Common.{arith}
use Rattle.std.specs.Prelude.{find, ◌==◌}
use Rattle.std.proofs.lemmas.Bool.{ltb-false, le-ltb, eqb-true, eq-eqb}
use Rattle.std.proofs.lemmas.List.{take_at, drop_at, length-append, length-take, append-nil, nil_from_length}
use Rattle.byteorder.specs.Endian.{little_bytes}
use Rattle.styx_msg.specs.declared.message.Qid.{Qid}
use Rattle.styx_msg.specs.declared.message.Stat.{Stat}
use Rattle.styx_msg.specs.declared.message.Tmsg.{Tmsg}
use Rattle.styx_msg.specs.declared.message.Tmsg.TheVariants as t
use Rattle.styx_msg.specs.declared.message.Rmsg.{Rmsg}
use Rattle.styx_msg.specs.declared.message.Rmsg.TheVariants as r
use Rattle.styx_decoding.specs.declared.kind.TKind.{TKind}
use Rattle.styx_decoding.specs.declared.kind.TKind.TheVariants as tk
use Rattle.styx_decoding.specs.declared.kind.RKind.{RKind}
use Rattle.styx_decoding.specs.declared.kind.RKind.TheVariants as rk
use Rattle.styx_msg.specs.Styx.{Field, number, text, qid, names, qids, counted, text_bytes, qid_bytes}
use Rattle.styx_msg.specs.Styx.{field_bytes, fields_bytes, entry, entry_bytes, entry_fields, Row, row, t_row}
use Rattle.styx_msg.specs.Styx.{r_row, IsText, IsQid, IsField}
use Rattle.inf_text.specs.Options.{◌>>=◌}
use Rattle.styx_decoding.specs.Reading.{Read, number_at, text_at, qid_at, walk_at, entry_fields_at, entry_at}
use Rattle.styx_decoding.specs.Reading.{t_number, t_kinds, t_kind_of, t_body_at, r_number, r_kinds, r_kind_of}
use Rattle.styx_decoding.specs.Reading.{r_body_at}
use Rattle.styx_decoding.proofs.Fields.{IsBytes, IsBytes-take, bind_some, guard_some, guard_true, some_is, Takes}
use Rattle.styx_decoding.proofs.Fields.{Takes-then, Takes-cut, Exact, exact1, exact2, exact4, exact8, exact_text}
use Rattle.styx_decoding.proofs.Fields.{exact_qid, exact_counted, exact_walk, AllFit, Rest, Continues, step, done}
use Rattle.styx_decoding.proofs.Fields.{Again, first, end}

exact_names : Exact (walk_at text_at) (λ ns. field_bytes (names ns)) (λ ns. IsField (names ns))
exact_names = exact_walk text_at text_bytes IsText exact_text

exact_qids : Exact (walk_at qid_at) (λ qs. field_bytes (qids qs)) (λ qs. IsField (qids qs))
exact_qids = exact_walk qid_at qid_bytes IsQid exact_qid

-- ---- entries

abbrev entry_row : Stat → Row
entry_row s = row 0 (entry_fields s)

fields_continue : Continues entry_row 0 [] entry_fields_at
unfolding entry_fields_at
fields_continue = step (number 2) exact2 _ (λ kind. step (number 4) exact4 _ (λ dev. step qid exact_qid _
    (λ q. step (number 4) exact4 _ (λ mode. step (number 4) exact4 _ (λ atime. step (number 4) exact4 _
    (λ mtime. step (number 8) exact8 _ (λ len. step text exact_text _ (λ name. step text exact_text _
    (λ uid. step text exact_text _ (λ gid. step text exact_text _ (λ muid. done (record {
      kind = kind;
      dev =
          dev;
      qid = q;
      mode = mode;
      atime = atime;
      mtime = mtime;
      length = len;
      name = name;
      uid = uid;
      gid =
          gid;
      muid = muid;
    }) refl)))))))))))

fields_again : (s : Stat) → AllFit (entry_fields s) → Again entry_fields_at (entry_fields s) s
unfolding entry_fields_at
fields_again s fits = first (number 2) exact2 _ s.kind fits.0 (first (number 4) exact4 _ s.dev fits.1.0
    (first qid exact_qid _ s.qid fits.1.1.0 (first (number 4) exact4 _ s.mode fits.1.1.1.0 (first
    (number 4) exact4 _ s.atime fits.1.1.1.1.0 (first (number 4) exact4 _ s.mtime fits.1.1.1.1.1.0 (first
    (number 8) exact8 _ s.length fits.1.1.1.1.1.1.0 (first text exact_text _ s.name fits.1.1.1.1.1.1.1.0
    (first text exact_text _ s.uid fits.1.1.1.1.1.1.1.1.0
    (first text exact_text _ s.gid fits.1.1.1.1.1.1.1.1.1.0
    (first text exact_text _ s.muid fits.1.1.1.1.1.1.1.1.1.1.0 end))))))))))

-- what is read of a row is all of the row
pub row_takes : {M : Type 0} (table : M → Row) (type : ℕ) (read : List ℕ → Read M)
    → Continues table type [] read → (bytes : List ℕ) (m : M) (rest : List ℕ) → IsBytes bytes → read bytes
    ≡ Some (m, rest)
    → ((table m).type ≡ type) × Takes bytes (fields_bytes (table m).fields) rest × AllFit (table m).fields
row_takes table type read continues bytes m rest fits e =
    let r = continues.takes bytes m rest fits e in
    let is : (table m).fields ≡ r.fields = ap (λ (x : Row). x.fields) r.is in (
      ap (λ (x : Row). x.type) r.is,
      subst (λ (fs : List Field). Takes bytes (fields_bytes fs) rest)
          (sym is) r.took,
      subst (λ (fs : List Field). AllFit fs) (sym is) r.fit,
    )

sized : (bytes : List ℕ) (n m : ℕ) (own all rest : List ℕ) → n ≡ m + 2 → m ≡ length own → own ≡ all
    → Takes bytes (little_bytes 2 n ++ (little_bytes 2 m ++ own)) rest
    → Takes bytes (little_bytes 2 (length all + 2) ++ (little_bytes 2 (length all) ++ all)) rest
sized bytes n m own all rest is-n is-m is took =
    let one : Takes bytes (little_bytes 2 (m + 2) ++ (little_bytes 2 m ++ own)) rest =
    subst (λ (x : ℕ). Takes bytes (little_bytes 2 x ++ (little_bytes 2 m ++ own)) rest) is-n took in
    let two : Takes bytes (little_bytes 2 (length own + 2) ++ (little_bytes 2 (length own) ++ own)) rest =
    subst (λ (x : ℕ). Takes bytes (little_bytes 2 (x + 2) ++ (little_bytes 2 x ++ own)) rest) is-m one in
    subst (λ (x : List ℕ). Takes bytes (little_bytes 2 (length x + 2) ++ (little_bytes 2
    (length x) ++ x)) rest) is two

entry_takes : (bytes : List ℕ) (s : Stat) (rest : List ℕ) → IsBytes bytes → entry_at bytes ≡ Some (s, rest)
    → Takes bytes (fields_bytes (entry s)) rest × AllFit (entry s)
unfolding entry_at entry entry_bytes
entry_takes bytes s rest fits e =
    let own_of = λ (n : ℕ × List ℕ). (entry_fields_at (take n.0 n.1) >>= λ x. cond (eqb (length x.1) 0) (Some
    (x.0, drop n.0 n.1)) None) in
    let a = bind_some (number_at 2 bytes) (λ whole. number_at 2 whole.1 >>= λ n. cond (eqb whole.0 (n.0 + 2))
    (cond (ltb (length n.1) n.0) None (own_of n)) None) (s, rest) e in
    let b = bind_some (number_at 2 a.0.1) (λ n. cond (eqb a.0.0 (n.0 + 2)) (cond (ltb (length n.1) n.0) None
    (own_of n)) None) (s, rest) a.2 in
    let n = b.0 in
    let g = guard_true (eqb a.0.0 (n.0 + 2)) (cond (ltb (length n.1) n.0) None (own_of n)) (s, rest) b.2 in
    let h = guard_some (ltb (length n.1) n.0) (own_of n) (s, rest) g.1 in
    let c = bind_some (entry_fields_at (take n.0 n.1)) (λ x. cond (eqb (length x.1) 0) (Some
    (x.0, drop n.0 n.1)) None) (s, rest) h.1 in
    let i = guard_true (eqb (length c.0.1) 0) (Some (c.0.0, drop n.0 n.1)) (s, rest) c.2 in
    let long : n.0 ≤ length n.1 = ltb-false _ _ h.0 in
    let whole-is : a.0.0 ≡ n.0 + 2 = eqb-true _ _ g.0 in
    let nothing : c.0.1 ≡ [] = nil_from_length c.0.1 (eqb-true _ _ i.0) in
    let t0 = exact2.takes bytes a.0.0 a.0.1 fits a.1 in
    let t1 = exact2.takes a.0.1 n.0 n.1 t0.0.rest_fits b.1 in
    let own = row_takes entry_row 0 entry_fields_at fields_continue (take n.0 n.1) c.0.0 c.0.1
    (IsBytes-take n.0 n.1 t1.0.rest_fits) c.1 in
    let all : List ℕ = fields_bytes (entry_fields c.0.0) in
    let own-is : take n.0 n.1 ≡ all = own.1.parts ∙ ap (λ (r : List ℕ). all ++ r) nothing ∙ append-nil all in
    let len : n.0 ≡ length (take n.0 n.1) = omega (arith, length-take n.0 n.1) in
    let inner = Takes-then a.0.1 (little_bytes 2 n.0) n.1 (take n.0 n.1) (drop n.0 n.1) t1.0
    (Takes-cut n.0 n.1 t1.0.rest_fits) in
    let both = Takes-then bytes (little_bytes 2 a.0.0) a.0.1 (little_bytes 2 n.0 ++ take n.0 n.1)
    (drop n.0 n.1) t0.0 inner in
    let took = sized bytes a.0.0 n.0 (take n.0 n.1) all (drop n.0 n.1) whole-is len own-is both in
    let length-is : n.0 ≡ length all = len ∙ ap length own-is in
    let short : length all + 2 < 2 ^ 16 = rw (← length-is, ← whole-is) t0.1 in
    let shorter : length all < 2 ^ 16 = rw (← length-is) t1.1 in
    subst (λ (x : Stat × List ℕ). Takes bytes (fields_bytes (entry x.0)) x.1
    × AllFit (entry x.0)) (some_is (c.0.0, drop n.0 n.1) (s, rest) i.1) (took, (short, (shorter, own.2)))

entry_core : (all : List ℕ) (s : Stat) (rest : List ℕ) → entry_fields_at all ≡ Some (s, [])
    → length all + 2 < 2 ^ 16 → entry_at (little_bytes 2 (length all + 2) ++ (little_bytes 2 (length all) ++
    (all ++ rest))) ≡ Some (s, rest)
unfolding entry_at
entry_core all s rest fields short =
    let shorter : length all < 256 ^ 2 = omega arith in
    let long : ltb (length (all ++ rest)) (length all) ≡ false = le-ltb _ _ (omega (arith, length-append all rest)) in
    rw (
      exact2.again (length all + 2) (little_bytes 2 (length all) ++ (all ++ rest)) short,
      exact2.again
          (length all) (all ++ rest) shorter,
      eq-eqb (length all + 2)
          (length all + 2) refl,
      long,
      take_at all rest (length all) refl,
      drop_at all rest
          (length all) refl,
      fields,
    ) refl

entry_again : (s : Stat) (rest : List ℕ) → AllFit (entry s) → entry_at (fields_bytes (entry s) ++ rest)
    ≡ Some (s, rest)
unfolding entry entry_bytes
entry_again s rest fits =
    let all : List ℕ = fields_bytes (entry_fields s) in
    let fields : entry_fields_at all ≡ Some (s, []) = ap entry_fields_at (sym (append-nil all))
    ∙ (fields_again s fits.1.1).again [] in
    entry_core all s rest fields fits.0

last_entry : {M : Type 0} {table : M → Row} {type : ℕ} {before : List Field} (made : Stat → M) → ((s : Stat)
    → table (made s) ≡ row type (before ++ entry s))
    → Continues table type before (λ after. entry_at after >>= λ s. Some (made s.0, s.1))
last_entry {table = table} {type = type} {before = before} made is = record {
  takes = λ bytes m rest fits e.
      let b = bind_some (entry_at bytes) (λ s. Some (made s.0, s.1)) (m, rest) e in
      let t = entry_takes bytes b.0.0 b.0.1 fits b.1 in
      subst (λ (x : _ × List ℕ). Rest table type before x.0 bytes x.1) (some_is (made b.0.0, b.0.1)
      (m, rest) b.2) (record { fields = entry b.0.0; is = is b.0.0; took = t.0; fit = t.1 });
}

again_entry : {M : Type 0} (made : Stat → M) (s : Stat) → AllFit (entry s)
    → Again (λ after. entry_at after >>= λ x. Some (made x.0, x.1)) (entry s) (made s)
again_entry made s fits = record { again = λ rest. rw (entry_again s rest fits) refl }

-- ---- a direction

-- a message's type is known, its number is the row's, and its body is read exactly
pub record Direction {M K : Type 0} (table : M → Row) (number_of : K → ℕ) (kind_of : ℕ → Option K) (body_at : K
    → List ℕ → Read M) (kind_is : M → K) : Type 0 where
  pub continues : (k : K) → Continues table (number_of k) [] (body_at k)
  pub agains : (m : M) → AllFit (table m).fields → Again (body_at (kind_is m)) (table m).fields m
  pub known : (m : M) → kind_of (table m).type ≡ Some (kind_is m)
  pub sound : (n : ℕ) (k : K) → kind_of n ≡ Some k → number_of k ≡ n
  pub sample : (k : K) → (m : M) × ((table m).type ≡ number_of k)

found_at : {K : Type 0} (p : K → Bool) (x k : K) (others : Option K) (b : Bool) → p x ≡ b → (others ≡ Some k
    → p k ≡ true) → cond b (Some x) others ≡ Some k → p k ≡ true
found_at p x k others true is later e = ap p (sym (some_is x k e)) ∙ is
found_at p x k others false is later e = later e

found : {K : Type 0} (p : K → Bool) (ks : List K) (k : K) → find p ks ≡ Some k → p k ≡ true
found p [] k e = absurd cc
found p (x ∷ ks) k e = found_at p x k (find p ks) (p x) refl (found p ks k) e

no_qid : Qid
no_qid = record { kind = 0; vers = 0; path = 0 }

no_entry : Stat
no_entry = record {
  kind = 0;
  dev = 0;
  qid = no_qid;
  mode = 0;
  atime = 0;
  mtime = 0;
  length = 0;
  name = [];
  uid =
      [];
  gid = [];
  muid = [];
}

-- ---- requests

t_continues : (k : TKind) → Continues t_row (t_number k) [] (t_body_at k)
t_continues tk.Version = step (number 4) exact4 _ (λ msize. step text exact_text _ (λ version. done
    (t.Version msize version) refl))
t_continues tk.Auth = step (number 4) exact4 _ (λ afid. step text exact_text _ (λ uname. step text exact_text _
    (λ aname. done (t.Auth afid uname aname) refl)))
t_continues tk.Attach = step (number 4) exact4 _ (λ fid. step (number 4) exact4 _
    (λ afid. step text exact_text _ (λ uname. step text exact_text _ (λ aname. done
    (t.Attach fid afid uname aname) refl))))
t_continues tk.Flush = step (number 2) exact2 _ (λ oldtag. done (t.Flush oldtag) refl)
t_continues tk.Walk = step (number 4) exact4 _ (λ fid. step (number 4) exact4 _
    (λ newfid. step names exact_names _ (λ wname. done (t.Walk fid newfid wname) refl)))
t_continues tk.Open = step (number 4) exact4 _ (λ fid. step (number 1) exact1 _ (λ mode. done (t.Open fid mode) refl))
t_continues tk.Create = step (number 4) exact4 _ (λ fid. step text exact_text _ (λ name. step
    (number 4) exact4 _ (λ perm. step (number 1) exact1 _ (λ mode. done (t.Create fid name perm mode) refl))))
t_continues tk.Read = step (number 4) exact4 _ (λ fid. step (number 8) exact8 _ (λ offset. step
    (number 4) exact4 _ (λ count. done (t.Read fid offset count) refl)))
t_continues tk.Write = step (number 4) exact4 _ (λ fid. step (number 8) exact8 _
    (λ offset. step counted exact_counted _ (λ piece. done (t.Write fid offset piece) refl)))
t_continues tk.Clunk = step (number 4) exact4 _ (λ fid. done (t.Clunk fid) refl)
t_continues tk.Remove = step (number 4) exact4 _ (λ fid. done (t.Remove fid) refl)
t_continues tk.Stat = step (number 4) exact4 _ (λ fid. done (t.Stat fid) refl)
t_continues tk.Wstat = step (number 4) exact4 _ (λ fid. last_entry (λ s. t.Wstat fid s) (λ s. refl))

-- the type of a message
abbrev pub t_kind_is : Tmsg → TKind
t_kind_is (t.Version msize version) = tk.Version
t_kind_is (t.Auth afid uname aname) = tk.Auth
t_kind_is (t.Attach fid afid uname aname) = tk.Attach
t_kind_is (t.Flush oldtag) = tk.Flush
t_kind_is (t.Walk fid newfid wname) = tk.Walk
t_kind_is (t.Open fid mode) = tk.Open
t_kind_is (t.Create fid name perm mode) = tk.Create
t_kind_is (t.Read fid offset count) = tk.Read
t_kind_is (t.Write fid offset piece) = tk.Write
t_kind_is (t.Clunk fid) = tk.Clunk
t_kind_is (t.Remove fid) = tk.Remove
t_kind_is (t.Stat fid) = tk.Stat
t_kind_is (t.Wstat fid stat) = tk.Wstat

t_agains : (m : Tmsg) → AllFit (t_row m).fields → Again (t_body_at (t_kind_is m)) (t_row m).fields m
t_agains (t.Version msize version) fits =
    first (number 4) exact4 _ msize fits.0 (first text exact_text _ version fits.1.0 end)
t_agains (t.Auth afid uname aname) fits =
    first (number 4) exact4 _ afid fits.0 (first text exact_text _ uname fits.1.0
    (first text exact_text _ aname fits.1.1.0 end))
t_agains (t.Attach fid afid uname aname) fits =
    first (number 4) exact4 _ fid fits.0 (first (number 4) exact4 _ afid fits.1.0
    (first text exact_text _ uname fits.1.1.0 (first text exact_text _ aname fits.1.1.1.0 end)))
t_agains (t.Flush oldtag) fits = first (number 2) exact2 _ oldtag fits.0 end
t_agains (t.Walk fid newfid wname) fits =
    first (number 4) exact4 _ fid fits.0 (first (number 4) exact4 _ newfid fits.1.0
    (first names exact_names _ wname fits.1.1.0 end))
t_agains (t.Open fid mode) fits = first (number 4) exact4 _ fid fits.0 (first (number 1) exact1 _ mode fits.1.0 end)
t_agains (t.Create fid name perm mode) fits =
    first (number 4) exact4 _ fid fits.0 (first text exact_text _ name fits.1.0 (first
    (number 4) exact4 _ perm fits.1.1.0 (first (number 1) exact1 _ mode fits.1.1.1.0 end)))
t_agains (t.Read fid offset count) fits =
    first (number 4) exact4 _ fid fits.0 (first (number 8) exact8 _ offset fits.1.0 (first
    (number 4) exact4 _ count fits.1.1.0 end))
t_agains (t.Write fid offset piece) fits =
    first (number 4) exact4 _ fid fits.0 (first (number 8) exact8 _ offset fits.1.0
    (first counted exact_counted _ piece fits.1.1.0 end))
t_agains (t.Clunk fid) fits = first (number 4) exact4 _ fid fits.0 end
t_agains (t.Remove fid) fits = first (number 4) exact4 _ fid fits.0 end
t_agains (t.Stat fid) fits = first (number 4) exact4 _ fid fits.0 end
t_agains (t.Wstat fid stat) fits = first (number 4) exact4 _ fid fits.0 (again_entry _ stat fits.1)

t_known : (m : Tmsg) → t_kind_of (t_row m).type ≡ Some (t_kind_is m)
unfolding t_kind_of
t_known (t.Version msize version) = refl
t_known (t.Auth afid uname aname) = refl
t_known (t.Attach fid afid uname aname) = refl
t_known (t.Flush oldtag) = refl
t_known (t.Walk fid newfid wname) = refl
t_known (t.Open fid mode) = refl
t_known (t.Create fid name perm mode) = refl
t_known (t.Read fid offset count) = refl
t_known (t.Write fid offset piece) = refl
t_known (t.Clunk fid) = refl
t_known (t.Remove fid) = refl
t_known (t.Stat fid) = refl
t_known (t.Wstat fid stat) = refl

t_sample : (k : TKind) → (m : Tmsg) × ((t_row m).type ≡ t_number k)
t_sample tk.Version = (t.Version 0 [], refl)
t_sample tk.Auth = (t.Auth 0 [] [], refl)
t_sample tk.Attach = (t.Attach 0 0 [] [], refl)
t_sample tk.Flush = (t.Flush 0, refl)
t_sample tk.Walk = (t.Walk 0 0 [], refl)
t_sample tk.Open = (t.Open 0 0, refl)
t_sample tk.Create = (t.Create 0 [] 0 0, refl)
t_sample tk.Read = (t.Read 0 0 0, refl)
t_sample tk.Write = (t.Write 0 0 [], refl)
t_sample tk.Clunk = (t.Clunk 0, refl)
t_sample tk.Remove = (t.Remove 0, refl)
t_sample tk.Stat = (t.Stat 0, refl)
t_sample tk.Wstat = (t.Wstat 0 no_entry, refl)

t_sound : (n : ℕ) (k : TKind) → t_kind_of n ≡ Some k → t_number k ≡ n
unfolding t_kind_of
t_sound n k e = eqb-true _ _ (found (λ k. t_number k == n) t_kinds k e)

pub t_direction : Direction t_row t_number t_kind_of t_body_at t_kind_is
t_direction = record {
  continues = t_continues;
  agains = t_agains;
  known = t_known;
  sound = t_sound;
  sample =
      t_sample;
}

-- ---- replies

r_continues : (k : RKind) → Continues r_row (r_number k) [] (r_body_at k)
r_continues rk.Version = step (number 4) exact4 _ (λ msize. step text exact_text _ (λ version. done
    (r.Version msize version) refl))
r_continues rk.Auth = step qid exact_qid _ (λ aqid. done (r.Auth aqid) refl)
r_continues rk.Attach = step qid exact_qid _ (λ q. done (r.Attach q) refl)
r_continues rk.Error = step text exact_text _ (λ ename. done (r.Error ename) refl)
r_continues rk.Flush = done r.Flush refl
r_continues rk.Walk = step qids exact_qids _ (λ wqid. done (r.Walk wqid) refl)
r_continues rk.Open = step qid exact_qid _ (λ q. step (number 4) exact4 _ (λ iounit. done (r.Open q iounit) refl))
r_continues rk.Create = step qid exact_qid _ (λ q. step (number 4) exact4 _ (λ iounit. done (r.Create q iounit) refl))
r_continues rk.Read = step counted exact_counted _ (λ piece. done (r.Read piece) refl)
r_continues rk.Write = step (number 4) exact4 _ (λ count. done (r.Write count) refl)
r_continues rk.Clunk = done r.Clunk refl
r_continues rk.Remove = done r.Remove refl
r_continues rk.Stat = last_entry (λ s. r.Stat s) (λ s. refl)
r_continues rk.Wstat = done r.Wstat refl

-- the type of a message
abbrev pub r_kind_is : Rmsg → RKind
r_kind_is (r.Version msize version) = rk.Version
r_kind_is (r.Auth aqid) = rk.Auth
r_kind_is (r.Attach q) = rk.Attach
r_kind_is (r.Error ename) = rk.Error
r_kind_is r.Flush = rk.Flush
r_kind_is (r.Walk wqid) = rk.Walk
r_kind_is (r.Open q iounit) = rk.Open
r_kind_is (r.Create q iounit) = rk.Create
r_kind_is (r.Read piece) = rk.Read
r_kind_is (r.Write count) = rk.Write
r_kind_is r.Clunk = rk.Clunk
r_kind_is r.Remove = rk.Remove
r_kind_is (r.Stat stat) = rk.Stat
r_kind_is r.Wstat = rk.Wstat

r_agains : (m : Rmsg) → AllFit (r_row m).fields → Again (r_body_at (r_kind_is m)) (r_row m).fields m
r_agains (r.Version msize version) fits =
    first (number 4) exact4 _ msize fits.0 (first text exact_text _ version fits.1.0 end)
r_agains (r.Auth aqid) fits = first qid exact_qid _ aqid fits.0 end
r_agains (r.Attach q) fits = first qid exact_qid _ q fits.0 end
r_agains (r.Error ename) fits = first text exact_text _ ename fits.0 end
r_agains r.Flush fits = end
r_agains (r.Walk wqid) fits = first qids exact_qids _ wqid fits.0 end
r_agains (r.Open q iounit) fits = first qid exact_qid _ q fits.0 (first (number 4) exact4 _ iounit fits.1.0 end)
r_agains (r.Create q iounit) fits = first qid exact_qid _ q fits.0 (first (number 4) exact4 _ iounit fits.1.0 end)
r_agains (r.Read piece) fits = first counted exact_counted _ piece fits.0 end
r_agains (r.Write count) fits = first (number 4) exact4 _ count fits.0 end
r_agains r.Clunk fits = end
r_agains r.Remove fits = end
r_agains (r.Stat stat) fits = again_entry _ stat fits
r_agains r.Wstat fits = end

r_known : (m : Rmsg) → r_kind_of (r_row m).type ≡ Some (r_kind_is m)
unfolding r_kind_of
r_known (r.Version msize version) = refl
r_known (r.Auth aqid) = refl
r_known (r.Attach q) = refl
r_known (r.Error ename) = refl
r_known r.Flush = refl
r_known (r.Walk wqid) = refl
r_known (r.Open q iounit) = refl
r_known (r.Create q iounit) = refl
r_known (r.Read piece) = refl
r_known (r.Write count) = refl
r_known r.Clunk = refl
r_known r.Remove = refl
r_known (r.Stat stat) = refl
r_known r.Wstat = refl

r_sample : (k : RKind) → (m : Rmsg) × ((r_row m).type ≡ r_number k)
r_sample rk.Version = (r.Version 0 [], refl)
r_sample rk.Auth = (r.Auth no_qid, refl)
r_sample rk.Attach = (r.Attach no_qid, refl)
r_sample rk.Error = (r.Error [], refl)
r_sample rk.Flush = (r.Flush, refl)
r_sample rk.Walk = (r.Walk [], refl)
r_sample rk.Open = (r.Open no_qid 0, refl)
r_sample rk.Create = (r.Create no_qid 0, refl)
r_sample rk.Read = (r.Read [], refl)
r_sample rk.Write = (r.Write 0, refl)
r_sample rk.Clunk = (r.Clunk, refl)
r_sample rk.Remove = (r.Remove, refl)
r_sample rk.Stat = (r.Stat no_entry, refl)
r_sample rk.Wstat = (r.Wstat, refl)

r_sound : (n : ℕ) (k : RKind) → r_kind_of n ≡ Some k → r_number k ≡ n
unfolding r_kind_of
r_sound n k e = eqb-true _ _ (found (λ k. r_number k == n) r_kinds k e)

pub r_direction : Direction r_row r_number r_kind_of r_body_at r_kind_is
r_direction = record {
  continues = r_continues;
  agains = r_agains;
  known = r_known;
  sound = r_sound;
  sample =
      r_sample;
}
