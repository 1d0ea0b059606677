use Rattle.st_law.specs.Numbers.{largest_number}
use Rattle.st_reached.proofs.NumbersBack.{in_circle, keeps_number, numbered_whole, one_drawing, roomy, trace_back}
use Rattle.st_reached.proofs.law.a_number_means_one_drawing.Goals as goal

pub returns-clause-range : goal.returns-clause-range
returns-clause-range c = in_circle

pub returns-clause-one : goal.returns-clause-one
returns-clause-one c = one_drawing

pub returns-clause-keeps : goal.returns-clause-keeps
returns-clause-keeps c = λ circle input startable room q later earlier lawful low. (keeps_number circle input startable room q later earlier lawful low).1

pub returns-clause-whole : goal.returns-clause-whole
returns-clause-whole c = numbered_whole

pub returns-clause-circle : goal.returns-clause-circle
returns-clause-circle c = trace_back

pub returns-clause-back : goal.returns-clause-back
returns-clause-back c = λ input startable trace lawful. trace_back largest_number input startable (roomy input startable) trace lawful
