use Rattle.std.proofs.Common.{◌≡◌, Err, length, map, ap, ◌∙◌, arith}
use Rattle.slot_code.specs.View.{view_function, view_module}
use Rattle.dis_generation.specs.declared.fault.GenFault.TheVariants.{CodeTooLarge}
use Rattle.dis_generation.proofs.Ready.{is_few}
use Rattle.dis_generation.proofs.Assembly.{counted, made_ready}
use Rattle.dis_generation.proofs.object.generate.Goals as goal

pub make_object-requires-clause-ready : goal.make_object-requires-clause-ready
make_object-requires-clause-ready c =
    made_ready (view_module c.args.module.now) (map view_function c.as_slice-functions.result.now) c.entry_length.result
    c.find_init-init.result c.requires.proper (ap (map view_function) c.as_slice-functions.ensures.value) c.find_init-init.ensures.found
    c.entry_length.ensures.value
    c.deref.result.now c.requires.small (c.deref.ensures.value ∙ (c.in-Ok.ensures {u = tt}).entries) (c.in-Ok.ensures {u = tt}).fits

pub returns-in_ok-make_object-in-Ok-clause-few : goal.returns-in_ok-make_object-in-Ok-clause-few
returns-in_ok-make_object-in-Ok-clause-few c =
    let insts = ap (λ o. length o.insts) (c.in_ok-make_object-in-Ok.ensures {u = tt}).object in
    let few = is_few (view_module c.args.module.now) c.requires.proper in
    omega (arith, insts, few)

pub returns-in_ok-make_object-in-Ok-clause-fits : goal.returns-in_ok-make_object-in-Ok-clause-fits
returns-in_ok-make_object-in-Ok-clause-fits c =
    let long = counted (view_module c.args.module.now) (map view_function c.as_slice-functions.result.now) c.entry_length.result
    c.find_init-init.result c.requires.proper (ap (map view_function) c.as_slice-functions.ensures.value) c.find_init-init.ensures.found
    c.entry_length.ensures.value in
    let insts = ap (λ o. length o.insts) (c.in_ok-make_object-in-Ok.ensures {u = tt}).object in
    let fits = (c.in-Ok.ensures {u = tt}).fits in
    omega (arith, long, insts, fits)

pub returns-in-Err-clause-too_large : goal.returns-in-Err-clause-too_large
returns-in-Err-clause-too_large c = λ e.
    let long = counted (view_module c.args.module.now) (map view_function c.as_slice-functions.result.now) c.entry_length.result
    c.find_init-init.result c.requires.proper (ap (map view_function) c.as_slice-functions.ensures.value) c.find_init-init.ensures.found
    c.entry_length.ensures.value in
    let fault : c.in-Err.fault ≡ CodeTooLarge = cc in
    let large = (c.in-Err.ensures {u = tt}).too_large (ap Err fault) in
    omega (arith, long, large)
