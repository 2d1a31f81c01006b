use Rattle.std.proofs.Common.{refl}
use Rattle.answer_model.proofs.laws.statuses_are_numbered.Goals as goal

pub returns : goal.returns
returns c =
    record {
      all = refl;
      done = refl;
      usage = refl;
      missing = refl;
      read_fault = refl;
      write_fault = refl;
      model_refused = refl;
      events_refused = refl;
      no_true_rule = refl;
      overflow = refl;
      bad_delay = refl;
      too_many_cycles = refl;
      no_memory = refl;
      log_refused = refl;
      state_refused = refl;
      faults = refl;
      refusals = refl;
      words = refl;
      run = refl;
      reading = refl;
      cdpp = refl;
      drawing = refl;
      log = refl;
      drawlog = refl;
    }
