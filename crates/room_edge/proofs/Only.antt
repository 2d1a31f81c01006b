-- One call after another changes only what both may change.
use Rattle.std.proofs.Common.{refl, ◌∙◌}
use Rattle.room_edge.specs.Outside.{Outside}
use Rattle.room_edge.specs.Only.{OnlyInput, OnlyOutput, OnlyMade, OnlyShown, OnlyComplained}

pub OnlyInput-refl : (a : Outside) → OnlyInput a a
OnlyInput-refl a = record { files = refl; made = refl; shown = refl; complained = refl; write_faults = refl; complain_faults = refl; created = refl }

pub OnlyInput-trans : (a b c : Outside) → OnlyInput a b → OnlyInput b c → OnlyInput a c
OnlyInput-trans a b c p q = record { files = q.files ∙ p.files; made = q.made ∙ p.made; shown = q.shown ∙ p.shown; complained = q.complained ∙ p.complained; write_faults = q.write_faults ∙ p.write_faults; complain_faults = q.complain_faults ∙ p.complain_faults; created = q.created ∙ p.created }

pub OnlyOutput-refl : (a : Outside) → OnlyOutput a a
OnlyOutput-refl a = record { files = refl; rest = refl; read_faults = refl; misses = refl; tried = refl; opened = refl }

pub OnlyOutput-trans : (a b c : Outside) → OnlyOutput a b → OnlyOutput b c → OnlyOutput a c
OnlyOutput-trans a b c p q = record { files = q.files ∙ p.files; rest = q.rest ∙ p.rest; read_faults = q.read_faults ∙ p.read_faults; misses = q.misses ∙ p.misses; tried = q.tried ∙ p.tried; opened = q.opened ∙ p.opened }

pub OnlyMade-refl : (a : Outside) → OnlyMade a a
OnlyMade-refl a = record { output = OnlyOutput-refl a; shown = refl; complained = refl; complain_faults = refl }

pub OnlyMade-trans : (a b c : Outside) → OnlyMade a b → OnlyMade b c → OnlyMade a c
OnlyMade-trans a b c p q = record { output = OnlyOutput-trans a b c p.output q.output; shown = q.shown ∙ p.shown; complained = q.complained ∙ p.complained; complain_faults = q.complain_faults ∙ p.complain_faults }

pub OnlyShown-refl : (a : Outside) → OnlyShown a a
OnlyShown-refl a = record { output = OnlyOutput-refl a; made = refl; created = refl; complained = refl; complain_faults = refl }

pub OnlyShown-trans : (a b c : Outside) → OnlyShown a b → OnlyShown b c → OnlyShown a c
OnlyShown-trans a b c p q = record { output = OnlyOutput-trans a b c p.output q.output; made = q.made ∙ p.made; created = q.created ∙ p.created; complained = q.complained ∙ p.complained; complain_faults = q.complain_faults ∙ p.complain_faults }

pub OnlyComplained-refl : (a : Outside) → OnlyComplained a a
OnlyComplained-refl a = record { output = OnlyOutput-refl a; made = refl; created = refl; shown = refl }

pub OnlyComplained-trans : (a b c : Outside) → OnlyComplained a b → OnlyComplained b c → OnlyComplained a c
OnlyComplained-trans a b c p q = record { output = OnlyOutput-trans a b c p.output q.output; made = q.made ∙ p.made; created = q.created ∙ p.created; shown = q.shown ∙ p.shown }
