use Rattle.std.proofs.Common.{map}
use Rattle.std.specs.List.{flat_map}
use Rattle.cell_table.specs.declared.state.PortState.{PortState}
use Rattle.cell_table.specs.Saved.{port_of_saved}
use Rattle.text_forms.specs.StateText.{port_words}
use Rattle.state_lines.specs.Words.{spaced_words}
use Rattle.state_lines.proofs.Appended.{texts_all, words_of_kept, texts_more, none_yet, keeps_itself, kept_on}
use Rattle.state_lines.proofs.words.put_ports.Goals as goal

pub returns-clause-ok : goal.returns-clause-ok
returns-clause-ok c =
    texts_all (λ (x : PortState). spaced_words (port_words (port_of_saved x))) c.args.into.now.items
    c.loop-port.into.items (spaced_words (flat_map port_words (map port_of_saved c.args.ports.now)))
    c.args.ports.now c.loop-port.port-index c.loop-port-test.false
    c.loop-port.invariant.appended (words_of_kept port_of_saved port_words c.args.ports.now)

pub loop-port-init : goal.loop-port-init
loop-port-init c = record { appended = none_yet c.args.into.now.items; kept = keeps_itself c.args.into.now.items }

pub returns-in_err-put_port-clause-kept : goal.returns-in_err-put_port-clause-kept
returns-in_err-put_port-clause-kept c =
    kept_on c.args.into.now.items c.loop-port.into.items c.put_port.new.into.items c.loop-port.invariant.kept c.put_port.ensures.kept

pub loop-port-preserved : goal.loop-port-preserved
loop-port-preserved c =
    let start = c.args.into.now.items in
    let old = c.loop-port.into.items in
    let new = c.put_port.new.into.items in
    record {
      appended = texts_more (λ (x : PortState). spaced_words (port_words (port_of_saved x))) start old new c.args.ports.now c.loop-port.port-index c.port-item.result
          c.loop-port-test.true c.port-item.is c.loop-port.invariant.appended c.in_ok-put_port.ensures.ok;
      kept = kept_on start old new c.loop-port.invariant.kept c.in_ok-put_port.ensures.kept;
    }
