use Rattle.std.proofs.Common.{◌≡◌, ◌<◌, ◌+◌, ◌*◌, ◌/◌, ℕ, List, take, drop, sym, ap, subst, ◌∙◌, arith}
use Rattle.ref_heap.specs.Words.{Cell, naming}
use Rattle.ref_heap.specs.Answers.{most}
use Rattle.ref_heap.specs.Store.{at, count, words_of}
use Rattle.dis_values.specs.Arrays.{IsWhole, elements}
use Rattle.dis_values.specs.References.{IsHoldFault, naming_all}
use Rattle.dis_values.proofs.Taken.{room_in, on_map}
use Rattle.dis_values.proofs.Sharing.{Call, call_copy, call_cells, call_moves, can_copy, named_alike, if_err_map}
use Rattle.dis_values.proofs.references.copy_held.Goals as goal

pub overflow_mul-into : goal.overflow_mul-into
overflow_mul-into c =
    let h = c.args.heap.now in
    let size = c.requires.marked.0 in
    let marks = c.requires.marked.1 in
    let a = c.requires.marked.2 in
    let b = c.requires.marked.3 in
    let e : c.element_size-size.result ≡ size =
    c.element_size-size.ensures size a.all (subst (λ (k : ℕ). IsWhole h k size a.all) (sym c.part-into.ensures.array) a.whole) in
    omega (
      arith,
      room_in size c.element_size-size.result a.all (c.part-into.result.from + c.args.from) e
          (omega (arith, a.within, c.requires.fits, c.part-into.ensures.from)),
      a.whole.bytes,
    )

pub overflow_mul-out : goal.overflow_mul-out
overflow_mul-out c =
    let h = c.args.heap.now in
    let size = c.requires.marked.0 in
    let marks = c.requires.marked.1 in
    let a = c.requires.marked.2 in
    let b = c.requires.marked.3 in
    let e : c.element_size-size.result ≡ size =
    c.element_size-size.ensures size a.all (subst (λ (k : ℕ). IsWhole h k size a.all) (sym c.part-into.ensures.array) a.whole) in
    omega (
      arith,
      room_in size c.element_size-size.result b.all c.part-out.result.from e
          (omega (arith, b.within, c.part-out.ensures.from)),
      b.whole.bytes,
    )

pub overflow_mul-out-2 : goal.overflow_mul-out-2
overflow_mul-out-2 c =
    let h = c.args.heap.now in
    let size = c.requires.marked.0 in
    let marks = c.requires.marked.1 in
    let a = c.requires.marked.2 in
    let b = c.requires.marked.3 in
    let e : c.element_size-size.result ≡ size =
    c.element_size-size.ensures size a.all (subst (λ (k : ℕ). IsWhole h k size a.all) (sym c.part-into.ensures.array) a.whole) in
    omega (
      arith,
      room_in size c.element_size-size.result b.all c.part-out.result.length e
          (omega (arith, b.within, c.part-out.ensures.length)),
      b.whole.bytes,
    )

pub copy_words-requires-clause-small : goal.copy_words-requires-clause-small
copy_words-requires-clause-small c =
    let h = c.args.heap.now in
    let size = c.requires.marked.0 in
    let marks = c.requires.marked.1 in
    let a = c.requires.marked.2 in
    let b = c.requires.marked.3 in
    let e : c.element_size-size.result ≡ size =
    c.element_size-size.ensures size a.all (subst (λ (k : ℕ). IsWhole h k size a.all) (sym c.part-into.ensures.array) a.whole) in
    omega (
      arith,
      room_in size c.element_size-size.result b.all (c.part-out.result.from + c.part-out.result.length) e
          (omega (arith, b.within, c.part-out.ensures.from, c.part-out.ensures.length)),
      b.whole.bytes,
    )

pub copy_words-requires-clause-small_to : goal.copy_words-requires-clause-small_to
copy_words-requires-clause-small_to c =
    let h = c.args.heap.now in
    let size = c.requires.marked.0 in
    let marks = c.requires.marked.1 in
    let a = c.requires.marked.2 in
    let b = c.requires.marked.3 in
    let e : c.element_size-size.result ≡ size =
    c.element_size-size.ensures size a.all (subst (λ (k : ℕ). IsWhole h k size a.all) (sym c.part-into.ensures.array) a.whole) in
    let x = c.part-into.result.from + c.args.from + c.part-out.result.length in
    omega (
      arith,
      room_in size c.element_size-size.result a.all x e
          (omega (arith, a.within, c.requires.fits, c.part-into.ensures.from, c.part-out.ensures.length)),
      a.whole.bytes,
    )

pub copy_words-requires-clause-there : goal.copy_words-requires-clause-there
copy_words-requires-clause-there c =
    let h = c.args.heap.now in
    let size = c.requires.marked.0 in
    let marks = c.requires.marked.1 in
    let a = c.requires.marked.2 in
    let b = c.requires.marked.3 in
    let e : c.element_size-size.result ≡ size =
    c.element_size-size.ensures size a.all (subst (λ (k : ℕ). IsWhole h k size a.all) (sym c.part-into.ensures.array) a.whole) in
    let k : Call h c.args.target.serial c.args.source.serial c.args.from size c.part-into.result.array.serial c.part-into.result.from
    c.part-out.result.array.serial c.part-out.result.from c.part-out.result.length c.element_size-size.result =
    record {
      into_is = c.part-into.ensures.array;
      to_is = c.part-into.ensures.from;
      out_is = c.part-out.ensures.array;
      sf_is = c.part-out.ensures.from;
      n_is = c.part-out.ensures.length;
      z_is = e;
    } in
    call_copy h c.args.target.serial c.args.source.serial c.args.from size c.part-into.result.array.serial c.part-into.result.from
    c.part-out.result.array.serial c.part-out.result.from c.part-out.result.length c.element_size-size.result k
    (can_copy h c.args.target.serial c.args.source.serial c.args.from size marks a b c.requires.fits)

pub returns-clause-copies : goal.returns-clause-copies
returns-clause-copies c =
    let h = c.args.heap.now in
    let size = c.requires.marked.0 in
    let marks = c.requires.marked.1 in
    let a = c.requires.marked.2 in
    let b = c.requires.marked.3 in
    let e : c.element_size-size.result ≡ size =
    c.element_size-size.ensures size a.all (subst (λ (k : ℕ). IsWhole h k size a.all) (sym c.part-into.ensures.array) a.whole) in
    let k : Call h c.args.target.serial c.args.source.serial c.args.from size c.part-into.result.array.serial c.part-into.result.from
    c.part-out.result.array.serial c.part-out.result.from c.part-out.result.length c.element_size-size.result =
    record {
      into_is = c.part-into.ensures.array;
      to_is = c.part-into.ensures.from;
      out_is = c.part-out.ensures.array;
      sf_is = c.part-out.ensures.from;
      n_is = c.part-out.ensures.length;
      z_is = e;
    } in
    on_map c.copy_words.result _ _ (call_moves h c.copy_words.new.heap c.args.target.serial c.args.source.serial c.args.from size
    c.part-into.result.array.serial c.part-into.result.from
    c.part-out.result.array.serial c.part-out.result.from c.part-out.result.length c.element_size-size.result marks a b k c.requires.fits)
    c.copy_words.ensures.moves

pub returns-clause-fault : goal.returns-clause-fault
returns-clause-fault c =
    let h = c.args.heap.now in
    let size = c.requires.marked.0 in
    let marks = c.requires.marked.1 in
    let a = c.requires.marked.2 in
    let b = c.requires.marked.3 in
    let e : c.element_size-size.result ≡ size =
    c.element_size-size.ensures size a.all (subst (λ (k : ℕ). IsWhole h k size a.all) (sym c.part-into.ensures.array) a.whole) in
    let k : Call h c.args.target.serial c.args.source.serial c.args.from size c.part-into.result.array.serial c.part-into.result.from
    c.part-out.result.array.serial c.part-out.result.from c.part-out.result.length c.element_size-size.result =
    record {
      into_is = c.part-into.ensures.array;
      to_is = c.part-into.ensures.from;
      out_is = c.part-out.ensures.array;
      sf_is = c.part-out.ensures.from;
      n_is = c.part-out.ensures.length;
      z_is = e;
    } in
    let same : (n : ℕ) → naming (take (c.part-out.result.length * (c.element_size-size.result / 4))
    (drop (c.part-out.result.from * (c.element_size-size.result / 4)) (words_of b.whole.block))) n ≡ naming_all
    (elements h c.args.source.serial) n =
    (λ (n : ℕ). ap (λ (cs : List Cell). naming cs n) (call_cells h c.args.target.serial c.args.source.serial c.args.from size
    c.part-into.result.array.serial c.part-into.result.from
    c.part-out.result.array.serial c.part-out.result.from c.part-out.result.length c.element_size-size.result (words_of b.whole.block) k)
    ∙ named_alike h c.args.source.serial size marks b n) in
    if_err_map c.copy_words.result _ _ (λ f g. subst (λ (x : ℕ → ℕ). IsHoldFault h x f) (λ i n. same n i)
    (g b.whole.block (ap (at h) c.part-out.ensures.array ∙ b.whole.live))) c.copy_words.ensures.fault

pub returns-clause-full : goal.returns-clause-full
returns-clause-full c n some over =
    let h = c.args.heap.now in
    let size = c.requires.marked.0 in
    let marks = c.requires.marked.1 in
    let a = c.requires.marked.2 in
    let b = c.requires.marked.3 in
    let e : c.element_size-size.result ≡ size =
    c.element_size-size.ensures size a.all (subst (λ (k : ℕ). IsWhole h k size a.all) (sym c.part-into.ensures.array) a.whole) in
    let k : Call h c.args.target.serial c.args.source.serial c.args.from size c.part-into.result.array.serial c.part-into.result.from
    c.part-out.result.array.serial c.part-out.result.from c.part-out.result.length c.element_size-size.result =
    record {
      into_is = c.part-into.ensures.array;
      to_is = c.part-into.ensures.from;
      out_is = c.part-out.ensures.array;
      sf_is = c.part-out.ensures.from;
      n_is = c.part-out.ensures.length;
      z_is = e;
    } in
    let same : naming (take (c.part-out.result.length * (c.element_size-size.result / 4))
    (drop (c.part-out.result.from * (c.element_size-size.result / 4)) (words_of b.whole.block))) n ≡ naming_all
    (elements h c.args.source.serial) n =
    ap (λ (cs : List Cell). naming cs n) (call_cells h c.args.target.serial c.args.source.serial c.args.from size
    c.part-into.result.array.serial c.part-into.result.from
    c.part-out.result.array.serial c.part-out.result.from c.part-out.result.length c.element_size-size.result (words_of b.whole.block) k)
    ∙ named_alike h c.args.source.serial size marks b n in
    c.copy_words.ensures.full b.whole.block (ap (at h) c.part-out.ensures.array ∙ b.whole.live) n
    (subst (λ (x : ℕ). 0 < x) (sym same) some) (subst (λ (x : ℕ). most < count (at h) n + x) (sym same) over)
