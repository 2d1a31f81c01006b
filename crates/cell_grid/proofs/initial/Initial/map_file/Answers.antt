use Rattle.std.proofs.Common.{◌≡◌, Some, None, [], length, sym, ap, ◌∙◌, arith, rules}
use Rattle.std.proofs.lemmas.List.{take_at}
use Rattle.std.specs.Option.{option_map}
use Rattle.cell_grid.specs.Space.{cell_count}
use Rattle.cell_grid.specs.Initial.{map_file, with_map}
use Rattle.cell_grid.specs.Reading.{words_left, values_for}
use Rattle.cell_grid.proofs.FileLemmas.{map_file_is}
use Rattle.cell_grid.proofs.initial.Initial.map_file.Goals as goal

pub returns-in_err-lay_words-clause-value : goal.returns-in_err-lay_words-clause-value
returns-in_err-lay_words-clause-value c =
    let as_many : length c.deref_mut.result.now ≡ cell_count c.args.grid.now = ap length (c.deref_mut.ensures.value ∙ c.self.view_is) ∙ c.requires in
    let none : map_file c.args.grid.now c.args.file.now ≡ None =
    sym (map_file_is c.args.grid.now c.args.file.now) ∙ sym (ap (λ n. values_for n (words_left [] c.args.file.now)) as_many) ∙ c.in_err-lay_words.ensures.1 in
    search rules

pub returns-clause-value : goal.returns-clause-value
returns-clause-value c =
    let as_many : length c.deref_mut.result.now ≡ cell_count c.args.grid.now = ap length (c.deref_mut.ensures.value ∙ c.self.view_is) ∙ c.requires in
    let some : map_file c.args.grid.now c.args.file.now ≡ Some c.lay_words.new.cells =
    sym (map_file_is c.args.grid.now c.args.file.now) ∙ sym (ap (λ n. values_for n (words_left [] c.args.file.now)) as_many) ∙ c.in_ok-lay_words.ensures in
    ap Some (take_at c.lay_words.new.cells _ c.self.inside.0.len (omega (arith, c.lay_words.auto.cells, c.deref_mut.ensures.len))) ∙ sym (ap (option_map (λ values. with_map c.args.self (Some values))) some)
