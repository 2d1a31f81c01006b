use Rattle.std.proofs.Common.{ap, ◌∙◌}
use Rattle.cell_grid.specs.Space.{dims_of}
use Rattle.model_spaces.proofs.group.group_names.Goals as goal

pub returns : goal.returns
returns c = λ i. record {
  offsets = c.requires.offsets i;
  dims = (c.dims.ensures ∙ ap dims_of c.requires.space) i;
  variables = c.in_ok-variables.ensures i;
  ports = c.in_ok-ports.ensures i;
}
