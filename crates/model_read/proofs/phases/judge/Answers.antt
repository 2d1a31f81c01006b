use Rattle.std.proofs.Common.{◌≡◌, List, map, subst}
use Rattle.std.specs.Prelude.{IfOk}
use Rattle.ma_lines.specs.Sections.{Section}
use Rattle.model_text.specs.Accepted.{first_of}
use Rattle.model_text.specs.BuildLaws.{PassedLinks}
use Rattle.model_text.specs.Walk.{groups}
use Rattle.model_walk.specs.Placed.{values_before_files}
use Rattle.model_build.specs.Boxes.{settings_of_stock}
use Rattle.model_build.specs.Built.{IsBuilt}
use Rattle.model_build.specs.Settled.{classes_of}
use Rattle.model_read.specs.Order.{up_to_limit}
use Rattle.model_read.specs.Spaces as spaces
use Rattle.model_read.specs.Stops.{RefusesAs}
use Rattle.model_read.proofs.phases.judge.Goals as goal

pub returns-clause-passed : goal.returns-clause-passed
returns-clause-passed g c =
    subst (λ (ss : List Section). IfOk c.judge_read.result (λ r. PassedLinks (classes_of c.args.stock.now) ss)) c.in_ok-read.ensures c.judge_read.ensures.passed

pub returns-clause-tree : goal.returns-clause-tree
returns-clause-tree g c =
    subst (λ (ss : List Section). IfOk c.judge_read.result (λ r. IsBuilt ss (settings_of_stock c.judge_read.new.stock) r.top)) c.in_ok-read.ensures c.judge_read.ensures.tree

pub returns-clause-boxes : goal.returns-clause-boxes
returns-clause-boxes g c = c.judge_read.ensures.boxes

pub returns-clause-groups : goal.returns-clause-groups
returns-clause-groups g c =
    subst (λ (ss : List Section). IfOk c.judge_read.result (λ r. map spaces.kept_space r.groups.items ≡ map spaces.said_space (groups ss))) c.in_ok-read.ensures c.judge_read.ensures.groups

pub returns-clause-values : goal.returns-clause-values
returns-clause-values g c =
    subst (λ (ss : List Section). IfOk c.judge_read.result (λ r. r.values.items ≡ map values_before_files (groups ss))) c.in_ok-read.ensures c.judge_read.ensures.values

pub returns-clause-refused : goal.returns-clause-refused
returns-clause-refused g c =
    subst (λ (ss : List Section). RefusesAs (first_of (up_to_limit (classes_of c.args.stock.now) ss)) c.judge_read.result) c.in_ok-read.ensures c.judge_read.ensures.refused
