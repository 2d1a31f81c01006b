use Rattle.std.proofs.Common.{◌≡◌, ◌++◌, ◌∷◌, [], Some, Err, sym, ap, ◌∙◌, rules}
use Rattle.atomic_face.specs.ClassNames.{class_named}
use Rattle.quantity.specs.Bytes.{Bytes}
use Rattle.model_tree.specs.declared.group.Atomic.{Atomic}
use Rattle.model_text.specs.Stock.{class_of_item}
use Rattle.model_walk.specs.Shown.{item_of, refusal_of}
use Rattle.model_build.proofs.Stocks.{adds, has-once, off-form}
use Rattle.model_build.proofs.component_box.add_component.Goals as goal

pub settle_box-requires-clause-once : goal.settle_box-requires-clause-once
settle_box-requires-clause-once g c =
    let known : class_of_item (item_of c.args.item.now) ≡ Some c.in-Some.class = sym (c.in-Some.ensures ∙ ap class_named c.class_of.ensures) in
    has-once c.args.sections.now (item_of c.args.item.now) c.in-Some.class c.args.stock.now c.take_box.new.stock c.in_ok-at.at known c.requires c.in_ok-at.ensures.taken

pub returns-in_err-settle_box-clause-refused : goal.returns-in_err-settle_box-clause-refused
returns-in_err-settle_box-clause-refused g c = λ why e.
    let known : class_of_item (item_of c.args.item.now) ≡ Some c.in-Some.class = sym (c.in-Some.ensures ∙ ap class_named c.class_of.ensures) in
    let is : c.from_residual-in_err-settle_box.result ≡ Err c.in_err-settle_box.field-0.0 = search rules in
    off-form c.args.sections.now c.args.stock.now c.take_box.new.stock (item_of c.args.item.now) c.in-Some.class c.in_ok-at.at (refusal_of why) known c.in_ok-at.ensures.taken
    (c.in_err-settle_box.ensures.refused why (sym is ∙ e))

pub returns-clause-adds : goal.returns-clause-adds
returns-clause-adds g c =
    let known : class_of_item (item_of c.args.item.now) ≡ Some c.in-Some.class = sym (c.in-Some.ensures ∙ ap class_named c.class_of.ensures) in
    let made : Atomic = record { name = c.in_ok-name.name; class = c.in-Some.class; at = c.in_ok-at.at } in
    let pushed : c.push.new.self.items ≡ c.args.found.now.items ++ made ∷ [] = search rules in
    adds c.args.sections.now (item_of c.args.item.now) c.in-Some.class c.in_ok-at.at c.args.stock.now c.take_box.new.stock c.settle_box.new.stock c.args.found.now.items c.push.new.self.items
    known c.in_ok-at.ensures.taken c.in_ok-settle_box.ensures.settles
    (pushed ∙ ap (λ (n : Bytes). c.args.found.now.items ++ record { name = n; class = c.in-Some.class; at = c.in_ok-at.at } ∷ []) (c.in_ok-name.ensures ∙ c.name_of.ensures))
