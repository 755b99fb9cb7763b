use Rattle.std.proofs.Common.{◌≡◌, ◌+◌, ◌*◌, ℕ, sym, ap, subst, ◌∙◌, arith}
use Rattle.dis_values.specs.Arrays.{IsWhole}
use Rattle.dis_values.specs.Bytes.{HasBytes}
use Rattle.dis_values.proofs.Taken.{Copied, copied_bytes, copied_words, room_in, on_map}
use Rattle.dis_values.proofs.copies.copy_elements.Goals as goal

pub copy_bytes-requires-clause-kept : goal.copy_bytes-requires-clause-kept
copy_bytes-requires-clause-kept c =
    let h = c.args.heap.now in
    let size = c.requires.plain.0 in
    let a = c.requires.plain.1 in
    let e : c.element_size-size.result ≡ size = c.element_size-size.ensures size a.length
    (subst (λ (k : ℕ). IsWhole h k size a.length) (sym c.part-into.ensures.array) a.whole) in
    let f : size * a.length ≡ a.length = (let g : size ≡ 1 = sym e ∙ c.if-size-eq1.true in ap (λ (x : ℕ). x * a.length) g
    ∙ omega arith) in (
      size * a.length,
      subst (λ (k : ℕ). HasBytes h k (size * a.length)) (sym c.part-into.ensures.array) a.kept,
      omega (arith, a.within, c.requires.fits, c.part-into.ensures.from, c.part-out.ensures.length),
    )

pub overflow_mul-into : goal.overflow_mul-into
overflow_mul-into c =
    let h = c.args.heap.now in
    let size = c.requires.plain.0 in
    let a = c.requires.plain.1 in
    let e : c.element_size-size.result ≡ size = c.element_size-size.ensures size a.length
    (subst (λ (k : ℕ). IsWhole h k size a.length) (sym c.part-into.ensures.array) a.whole) in
    let x = c.part-into.result.from + c.args.from in
    omega (
      arith,
      room_in size c.element_size-size.result a.length x e (omega
          (arith, a.within, c.requires.fits, c.part-into.ensures.from)),
      a.whole.bytes,
    )

pub overflow_mul-out : goal.overflow_mul-out
overflow_mul-out c =
    let h = c.args.heap.now in
    let size = c.requires.plain.0 in
    let a = c.requires.plain.1 in
    let b = c.requires.plain.2 in
    let e : c.element_size-size.result ≡ size = c.element_size-size.ensures size a.length
    (subst (λ (k : ℕ). IsWhole h k size a.length) (sym c.part-into.ensures.array) a.whole) in
    omega (
      arith,
      room_in size c.element_size-size.result b.length c.part-out.result.from e
          (omega (arith, b.within, c.part-out.ensures.from)),
      b.whole.bytes,
    )

pub overflow_mul-out-2 : goal.overflow_mul-out-2
overflow_mul-out-2 c =
    let h = c.args.heap.now in
    let size = c.requires.plain.0 in
    let a = c.requires.plain.1 in
    let b = c.requires.plain.2 in
    let e : c.element_size-size.result ≡ size = c.element_size-size.ensures size a.length
    (subst (λ (k : ℕ). IsWhole h k size a.length) (sym c.part-into.ensures.array) a.whole) in
    omega (
      arith,
      room_in size c.element_size-size.result b.length c.part-out.result.length e
          (omega (arith, b.within, c.part-out.ensures.length)),
      b.whole.bytes,
    )

pub copy_numbers-requires-clause-small : goal.copy_numbers-requires-clause-small
copy_numbers-requires-clause-small c =
    let h = c.args.heap.now in
    let size = c.requires.plain.0 in
    let a = c.requires.plain.1 in
    let b = c.requires.plain.2 in
    let e : c.element_size-size.result ≡ size = c.element_size-size.ensures size a.length
    (subst (λ (k : ℕ). IsWhole h k size a.length) (sym c.part-into.ensures.array) a.whole) in
    omega (
      arith,
      room_in size c.element_size-size.result b.length (c.part-out.result.from + c.part-out.result.length) e
          (omega (arith, b.within, c.part-out.ensures.from, c.part-out.ensures.length)),
      b.whole.bytes,
    )

pub copy_numbers-requires-clause-small_to : goal.copy_numbers-requires-clause-small_to
copy_numbers-requires-clause-small_to c =
    let h = c.args.heap.now in
    let size = c.requires.plain.0 in
    let a = c.requires.plain.1 in
    let b = c.requires.plain.2 in
    let e : c.element_size-size.result ≡ size = c.element_size-size.ensures size a.length
    (subst (λ (k : ℕ). IsWhole h k size a.length) (sym c.part-into.ensures.array) a.whole) in
    let x = c.part-into.result.from + c.args.from + c.part-out.result.length in
    omega (
      arith,
      room_in size c.element_size-size.result a.length x e (omega
          (arith, a.within, c.requires.fits, c.part-into.ensures.from, c.part-out.ensures.length)),
      a.whole.bytes,
    )

pub copy_numbers-requires-clause-kept : goal.copy_numbers-requires-clause-kept
copy_numbers-requires-clause-kept c =
    let h = c.args.heap.now in
    let size = c.requires.plain.0 in
    let a = c.requires.plain.1 in
    let b = c.requires.plain.2 in
    let e : c.element_size-size.result ≡ size = c.element_size-size.ensures size a.length
    (subst (λ (k : ℕ). IsWhole h k size a.length) (sym c.part-into.ensures.array) a.whole) in
    let x = c.part-into.result.from + c.args.from + c.part-out.result.length in (
      size * a.length,
      subst (λ (k : ℕ). HasBytes h k (size * a.length)) (sym c.part-into.ensures.array) a.kept,
      omega (
        arith,
        room_in size c.element_size-size.result a.length x e
            (omega (arith, a.within, c.requires.fits, c.part-into.ensures.from, c.part-out.ensures.length)),
      ),
    )

pub copy_numbers-requires-clause-source : goal.copy_numbers-requires-clause-source
copy_numbers-requires-clause-source c =
    let h = c.args.heap.now in
    let size = c.requires.plain.0 in
    let a = c.requires.plain.1 in
    let b = c.requires.plain.2 in
    let e : c.element_size-size.result ≡ size = c.element_size-size.ensures size a.length
    (subst (λ (k : ℕ). IsWhole h k size a.length) (sym c.part-into.ensures.array) a.whole) in
    let x = c.part-out.result.from + c.part-out.result.length in (
      size * b.length,
      subst (λ (k : ℕ). HasBytes h k (size * b.length)) (sym c.part-out.ensures.array) b.kept,
      omega (
        arith,
        room_in size c.element_size-size.result b.length x e
            (omega (arith, b.within, c.part-out.ensures.from, c.part-out.ensures.length)),
      ),
    )

pub returns-then-size-eq1-clause-takes : goal.returns-then-size-eq1-clause-takes
returns-then-size-eq1-clause-takes c =
    let h = c.args.heap.now in
    let size = c.requires.plain.0 in
    let a = c.requires.plain.1 in
    let b = c.requires.plain.2 in
    let e : c.element_size-size.result ≡ size = c.element_size-size.ensures size a.length
    (subst (λ (k : ℕ). IsWhole h k size a.length) (sym c.part-into.ensures.array) a.whole) in
    on_map c.copy_bytes.result _ _ (λ (x : Copied h c.copy_bytes.new.heap c.args.target.serial c.args.from c.args.source.serial).
    x.took.array)
    (copied_bytes c.copy_bytes.result h c.copy_bytes.new.heap c.args.target.serial c.args.source.serial c.args.from size
    c.part-into.result.array.serial
    (c.part-into.result.from + c.args.from) c.part-out.result.array.serial c.part-out.result.from c.part-out.result.length a b (sym e
    ∙ c.if-size-eq1.true)
    c.part-into.ensures.array (ap (λ (x : ℕ). x + c.args.from) c.part-into.ensures.from) c.part-out.ensures.array c.part-out.ensures.from
    c.part-out.ensures.length
    c.requires.fits c.copy_bytes.ensures.writes)

pub returns-clause-takes : goal.returns-clause-takes
returns-clause-takes c =
    let h = c.args.heap.now in
    let size = c.requires.plain.0 in
    let a = c.requires.plain.1 in
    let b = c.requires.plain.2 in
    let e : c.element_size-size.result ≡ size = c.element_size-size.ensures size a.length
    (subst (λ (k : ℕ). IsWhole h k size a.length) (sym c.part-into.ensures.array) a.whole) in
    on_map c.copy_numbers.result _ _ (λ (x : Copied h c.copy_numbers.new.heap c.args.target.serial c.args.from c.args.source.serial).
    x.took.array)
    (copied_words c.copy_numbers.result h c.copy_numbers.new.heap c.args.target.serial c.args.source.serial c.args.from size
    c.part-into.result.array.serial
    c.part-into.result.from c.part-out.result.array.serial c.part-out.result.from c.part-out.result.length c.element_size-size.result a b
    e c.if-size-eq1.false
    c.part-into.ensures.array c.part-into.ensures.from c.part-out.ensures.array c.part-out.ensures.from c.part-out.ensures.length
    c.requires.fits c.copy_numbers.ensures.writes)

pub returns-then-size-eq1-clause-elements : goal.returns-then-size-eq1-clause-elements
returns-then-size-eq1-clause-elements c =
    let h = c.args.heap.now in
    let size = c.requires.plain.0 in
    let a = c.requires.plain.1 in
    let b = c.requires.plain.2 in
    let e : c.element_size-size.result ≡ size = c.element_size-size.ensures size a.length
    (subst (λ (k : ℕ). IsWhole h k size a.length) (sym c.part-into.ensures.array) a.whole) in
    on_map c.copy_bytes.result _ _ (λ (x : Copied h c.copy_bytes.new.heap c.args.target.serial c.args.from c.args.source.serial).
    x.took.elements_are)
    (copied_bytes c.copy_bytes.result h c.copy_bytes.new.heap c.args.target.serial c.args.source.serial c.args.from size
    c.part-into.result.array.serial
    (c.part-into.result.from + c.args.from) c.part-out.result.array.serial c.part-out.result.from c.part-out.result.length a b (sym e
    ∙ c.if-size-eq1.true)
    c.part-into.ensures.array (ap (λ (x : ℕ). x + c.args.from) c.part-into.ensures.from) c.part-out.ensures.array c.part-out.ensures.from
    c.part-out.ensures.length
    c.requires.fits c.copy_bytes.ensures.writes)

pub returns-clause-elements : goal.returns-clause-elements
returns-clause-elements c =
    let h = c.args.heap.now in
    let size = c.requires.plain.0 in
    let a = c.requires.plain.1 in
    let b = c.requires.plain.2 in
    let e : c.element_size-size.result ≡ size = c.element_size-size.ensures size a.length
    (subst (λ (k : ℕ). IsWhole h k size a.length) (sym c.part-into.ensures.array) a.whole) in
    on_map c.copy_numbers.result _ _ (λ (x : Copied h c.copy_numbers.new.heap c.args.target.serial c.args.from c.args.source.serial).
    x.took.elements_are)
    (copied_words c.copy_numbers.result h c.copy_numbers.new.heap c.args.target.serial c.args.source.serial c.args.from size
    c.part-into.result.array.serial
    c.part-into.result.from c.part-out.result.array.serial c.part-out.result.from c.part-out.result.length c.element_size-size.result a b
    e c.if-size-eq1.false
    c.part-into.ensures.array c.part-into.ensures.from c.part-out.ensures.array c.part-out.ensures.from c.part-out.ensures.length
    c.requires.fits c.copy_numbers.ensures.writes)

pub returns-then-size-eq1-clause-plain : goal.returns-then-size-eq1-clause-plain
returns-then-size-eq1-clause-plain c =
    let h = c.args.heap.now in
    let size = c.requires.plain.0 in
    let a = c.requires.plain.1 in
    let b = c.requires.plain.2 in
    let e : c.element_size-size.result ≡ size = c.element_size-size.ensures size a.length
    (subst (λ (k : ℕ). IsWhole h k size a.length) (sym c.part-into.ensures.array) a.whole) in
    on_map c.copy_bytes.result _ _ (λ (x : Copied h c.copy_bytes.new.heap c.args.target.serial c.args.from c.args.source.serial). x.plain)
    (copied_bytes c.copy_bytes.result h c.copy_bytes.new.heap c.args.target.serial c.args.source.serial c.args.from size
    c.part-into.result.array.serial
    (c.part-into.result.from + c.args.from) c.part-out.result.array.serial c.part-out.result.from c.part-out.result.length a b (sym e
    ∙ c.if-size-eq1.true)
    c.part-into.ensures.array (ap (λ (x : ℕ). x + c.args.from) c.part-into.ensures.from) c.part-out.ensures.array c.part-out.ensures.from
    c.part-out.ensures.length
    c.requires.fits c.copy_bytes.ensures.writes)

pub returns-clause-plain : goal.returns-clause-plain
returns-clause-plain c =
    let h = c.args.heap.now in
    let size = c.requires.plain.0 in
    let a = c.requires.plain.1 in
    let b = c.requires.plain.2 in
    let e : c.element_size-size.result ≡ size = c.element_size-size.ensures size a.length
    (subst (λ (k : ℕ). IsWhole h k size a.length) (sym c.part-into.ensures.array) a.whole) in
    on_map c.copy_numbers.result _ _ (λ (x : Copied h c.copy_numbers.new.heap c.args.target.serial c.args.from c.args.source.serial).
    x.plain)
    (copied_words c.copy_numbers.result h c.copy_numbers.new.heap c.args.target.serial c.args.source.serial c.args.from size
    c.part-into.result.array.serial
    c.part-into.result.from c.part-out.result.array.serial c.part-out.result.from c.part-out.result.length c.element_size-size.result a b
    e c.if-size-eq1.false
    c.part-into.ensures.array c.part-into.ensures.from c.part-out.ensures.array c.part-out.ensures.from c.part-out.ensures.length
    c.requires.fits c.copy_numbers.ensures.writes)
