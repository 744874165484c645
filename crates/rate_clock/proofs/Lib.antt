-- Tables: facts about each entry of the tables of periods and offsets.
-- FiringByParts: a rate fires where two parts of the counter are 0.
-- Firing: when a rate fires next.
pub mod Tables
pub mod FiringByParts
pub mod Firing
