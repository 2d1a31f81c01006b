-- A run with enough cycles for its verdict names what there is, and leaves what fits.
use Rattle.run_model.specs.Run.{run_from}
use Rattle.run_model.specs.Instants.{InstantsOfRuns, RunsEnd}
use Rattle.run_model.specs.Fitting.{RunsFit}
use Rattle.run_loop.specs.Known.{RunsAreFit}

pub fit_runs : RunsEnd → InstantsOfRuns → RunsFit → RunsAreFit
fit_runs ends instants runs tree end limit low n s stands states enough =
    let r = run_from n tree end limit s in
    let goes = ends n tree end limit low s stands enough in
    let parts = runs tree end limit s r.left r.cycles r.verdict states goes in
    record {
      names = parts.0;
      never_fall = (instants tree end limit low s r.left r.cycles r.verdict stands goes).never_fall;
      fits = parts.1;
      whole = goes;
    }
