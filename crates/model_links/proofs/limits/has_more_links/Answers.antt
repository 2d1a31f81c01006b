use Rattle.std.proofs.Common.{◌≡◌, ◌+◌, ◌∙◌, map, length, sum, nat_lt, arith, get_or, sym, ap, Bor}
use Rattle.std.proofs.lemmas.Bool.{lt-ltb}
use Rattle.std.proofs.lemmas.Simd.{map-map}
use Rattle.ma_lines.specs.Sections.{Section}
use Rattle.model_text.specs.Links.{link_entries}
use Rattle.model_links.proofs.Counted.{sum-more, sum-whole}
use Rattle.model_links.proofs.limits.has_more_links.Goals as goal

pub returns-then-total-gt-MOST_LINKS : goal.returns-then-total-gt-MOST_LINKS
returns-then-total-gt-MOST_LINKS c =
    let g = λ (s : Section). length (link_entries s) in
    let f = λ (r : Bor Section). length (link_entries r.now) in
    let xs = c.args.sections.now in
    let i = c.loop-section.section-index in
    let d = c.section-item.result in
    let same : f d ≡ f (get_or xs i d) = ap f c.section-item.is in
    let whole = sum-whole f xs (i + 1) in
    let next = sum-more f xs i d c.loop-section-test.true in
    let here = ap g c.section.ensures in
    sym (lt-ltb 16384 (sum (map f xs)) (omega (arith, same, whole, next, here, c.loop-section.invariant.0, c.links_in.ensures, c.saturating_add-total.ensures)))
    ∙ ap (λ ns. nat_lt 16384 (sum ns)) (sym (map-map g (λ (r : Bor Section). r.now) xs))
