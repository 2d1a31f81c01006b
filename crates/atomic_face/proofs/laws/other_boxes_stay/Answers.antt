use Rattle.atomic_face.proofs.Shown.{leaves-others}
use Rattle.atomic_face.proofs.laws.other_boxes_stay.Goals as goal

pub returns : goal.returns
returns c = leaves-others
