-- The question that a pass puts to a liquid. Assumes nothing.
use Rattle.pass.specs.declared.readings.Record.{Record}
use Rattle.liquid.specs.declared.question.Question.{Question}

abbrev pub question_of : Record → Question
question_of r = record {
  wall_temperature = r.wall_temperature;
  vessel_pressure = r.vessel_pressure;
  densitometer_temperature = r.densitometer_temperature;
  densitometer_pressure = r.densitometer_pressure;
}
