use Rattle.std.proofs.Common.{◌≡◌, ◌∙◌, true, not, sym, rules, codes}
use Rattle.std.proofs.lemmas.Bool.{and_parts}
use Rattle.std.specs.Str.{bytes_eq}
use Rattle.quantity.specs.Bytes.{is_empty}
use Rattle.model_walk.proofs.Read.{read_under}
use Rattle.model_links.proofs.section.add_entry.Goals as goal

pub link_of-requires-clause-read : goal.link_of-requires-clause-read
link_of-requires-clause-read c =
    let r = c.args.read.now in
    let is : c.is_link.result ≡ true = search rules in
    read_under c.args.section.now.name (codes "link") r c.requires.read
    (and_parts (bytes_eq r.entry.now.key (codes "link")) (not (is_empty r.entry.now.value)) (sym c.is_link.ensures ∙ is)).0
