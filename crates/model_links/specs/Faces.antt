-- A face as it is kept.
use Rattle.std.specs.Prelude.{List, map}
use Rattle.model_tree.specs.declared.link.End.{End}
use Rattle.model_links.specs.declared.face.Face.{Face}
use Rattle.model_links.specs.Lent.{end_of}

-- where links may begin, but for cells
abbrev pub sources_of : Face → List End
sources_of f = map end_of f.sources.keys

-- where they may end, but for cells
abbrev pub targets_of : Face → List End
targets_of f = map end_of f.targets.keys
