-- What a session has of a state of a run.
use Rattle.std.specs.Prelude.{◌≡◌, ℕ, List}
use Rattle.st_law.specs.State.{State}
use Rattle.st_learn.specs.Sessions.{Session, version_of}

-- a session has the session's filters of a state, the versions in force, and the binaries that have some of both, in order
pub record IsSessionIn (st : State) (session : Session) : Type 0 where
  pub filters : session.filters ≡ st.session
  pub changed : session.changed ≡ st.changed
  pub versions : (binary : List ℕ) → version_of session.reloads binary ≡ st.versions binary
