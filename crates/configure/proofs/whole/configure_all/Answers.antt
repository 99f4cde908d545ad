-- What the generated proof of `configure::whole::configure_all` leaves to show.
-- Assumes nothing.
use mathlib.Core.Path.{sym, ◌∙◌}
use Rattle.configure.specs.Whole.{configure_all}
use Rattle.configure.proofs.Begins.{one_test}
use Rattle.configure.proofs.whole.configure_all.Goals as goal

pub returns-then-settings_fit : goal.returns-then-settings_fit
unfolding configure_all
returns-then-settings_fit c = simp (one_test, c.whole.ensures, sym c.settings_fit.ensures ∙ c.if-settings_fit.true)
